use Rattle.std.proofs.Common.{sym, ◌∙◌}
use Rattle.prepared.proofs.Reading.{steps_many}
use Rattle.prepared.proofs.steps.PreparedSteps.len.Goals as goal

pub returns : goal.returns
returns c = let s = c.args.self.now in c.saturating_sub.ensures ∙ sym (steps_many s)
