use Rattle.std.proofs.Common.{ap, sym, ◌∙◌}
use Rattle.std.proofs.lemmas.List.{length-map}
use Rattle.frame.specs.declared.header.Header.{Header}
use Rattle.sources.proofs.Counted.{samples_counted}
use Rattle.sources.proofs.offsets.FrameOffsetsOffsets.len.Goals as goal

pub returns : goal.returns
returns c =
    let frame = c.args.self.now.frame in
    ap (λ (h : Header). h.samples) c.header.ensures ∙ samples_counted frame.bytes.now frame.sound ∙ sym (length-map _ _)
