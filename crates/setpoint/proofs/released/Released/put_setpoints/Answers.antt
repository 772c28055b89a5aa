use Rattle.std.proofs.Common.{arith, ◌+◌, ◌*◌, length, take, sym, ap, ◌∙◌}
use Rattle.std.proofs.lemmas.List.{length_push}
use Rattle.words.specs.Words.{written}
use Rattle.grade.specs.Ranks.{class_rank, speed_rank}
use Rattle.setpoint.specs.Frames.{profile, setpoints}
use Rattle.setpoint.proofs.Framing.{profile_at, turn, done}
use Rattle.setpoint.proofs.Turns.{turned, ended}
use Rattle.setpoint.proofs.released.Released.put_setpoints.Goals as goal

pub loop-i-preserved : goal.loop-i-preserved
loop-i-preserved c =
    let r = c.args.self.now in
    let n = length c.loop-i.yielded in
    let t = turned r.classes.now r.speeds.now c.into_iter-i-iterator.result (cc) (cc) (cc) c.loop-i.yielded c.loop-i.i-iterator c.loop-i.yielded_by c.next.result c.next.new.self (c.in-Some.i, (c.in-Some.class, c.in-Some.speed)) c.in-Some.is c.next.ensures.steps in
    turn r.classes.now r.speeds.now (r.speed_cells ∙ sym r.class_cells) c.args.out.now c.loop-i.out c.put.new.out c.setpoint_bytes.result n _ _
    t.1 (omega (arith, c.requires)) c.loop-i.invariant (c.put.ensures ∙ ap (λ i. written c.loop-i.out (7 + 3 * i) c.setpoint_bytes.result) t.0) c.setpoint_bytes.ensures
    (ap (λ x. class_rank x.value) t.3 ∙ profile_at class_rank r.classes.now n _ t.1) (ap (λ x. speed_rank x.value) t.4 ∙ profile_at speed_rank r.speeds.now n _ t.2)
    ∙ ap (λ k. written c.args.out.now 7 (setpoints (take k (profile class_rank r.classes.now)) (take k (profile speed_rank r.speeds.now)))) (sym (length_push c.loop-i.yielded (c.in-Some.i, (c.in-Some.class, c.in-Some.speed))))

pub returns : goal.returns
returns c =
    let r = c.args.self.now in
    let e = ended r.classes.now r.speeds.now c.into_iter-i-iterator.result (cc) (cc) (cc) c.loop-i.yielded c.loop-i.i-iterator c.loop-i.yielded_by c.next.result c.next.new.self c.in-None.is c.next.ensures.steps in
    done r.classes.now r.speeds.now (r.speed_cells ∙ sym r.class_cells) c.args.out.now c.loop-i.out (length c.loop-i.yielded) (omega (arith, e, r.class_cells, r.speed_cells)) c.loop-i.invariant
