use Rattle.std.proofs.Common.{◌-◌, ap, sym, ◌∙◌}
use Rattle.std.proofs.lemmas.List.{length-map}
use Rattle.frame.specs.declared.header.Header.{Header}
use Rattle.sources.proofs.Counted.{gaps_counted}
use Rattle.sources.proofs.steps.FrameStepsSteps.len.Goals as goal

pub returns : goal.returns
returns g c =
    let frame = c.args.self.now.frame in
    c.saturating_sub.ensures ∙ ap (λ (h : Header). h.samples - 1) c.header.ensures ∙ gaps_counted frame.bytes.now frame.sound ∙ sym (length-map _ _)
