use Rattle.std.proofs.Common.{arith, sym, ap, ◌∙◌}
use Rattle.setpoint.specs.Frames.{header}
use Rattle.setpoint.proofs.Framing.{framed}
use Rattle.setpoint.proofs.released.Released.put_frame.Goals as goal

pub returns : goal.returns
returns c =
    let r = c.args.self.now in
    record {
      size = c.frame_size.ensures;
      memory = framed r.classes.now r.speeds.now (r.speed_cells ∙ sym r.class_cells) c.args.out.now c.put.new.out c.put_setpoints.new.out c.header_bytes.result
          (omega (arith, c.requires)) (c.header_bytes.ensures ∙ ap header (sym r.class_cells)) c.put.ensures c.put_setpoints.ensures;
    }
