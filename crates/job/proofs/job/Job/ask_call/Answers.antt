use Rattle.std.proofs.Common.{sym, ap, ◌∙◌, ⊎_elim}
use Rattle.runs.specs.Calls.{verdict}
use Rattle.job.specs.Whole.{setting}
use Rattle.job.proofs.job.Job.ask_call.Goals as goal

pub returns-in-Cut-clause-is : goal.returns-in-Cut-clause-is
returns-in-Cut-clause-is c a b =
    let σ = setting c.args.self.now.samples.count a b in
    let t = c.args.self.now.stage in
    c.ask_change.ensures.is a b ∙ ⊎_elim (λ e. ap (λ x. verdict σ x t) (sym e)) (λ e. ap (λ x. verdict σ x t) (sym e)) c.in-Cut.is
