use Rattle.std.proofs.Common.{◌≡◌, ◌-◌, ◌≤◌}
use Rattle.runs.specs.Calls.{advanced}
use Rattle.sweep.specs.Passes.{further}
use Rattle.job.specs.Whole.{whole, setting}
use Rattle.job.proofs.job.Job.work.Given as goal

-- what is left of the allowance leads from here to where the whole of it leads from the start
abbrev pub invariant-loop-evaluations : goal.invariant-loop-evaluations
invariant-loop-evaluations g l =
    let σ = setting l.initial.self.samples.count (g.C.Limit.number l.limits.classes.now) (g.S.Limit.number l.limits.speeds.now) in
    (l.lowerings ≤ l.evaluations)
    × (l.evaluations ≤ l.allowance)
    × (l.self.samples ≡ l.initial.self.samples)
    × (further l.evaluations l.lowerings (advanced σ (l.allowance - l.evaluations) (whole l.self l.classes l.speeds))
    ≡ advanced σ l.allowance (whole l.initial.self l.initial.classes l.initial.speeds))

abbrev pub decreases-loop-evaluations : goal.decreases-loop-evaluations
decreases-loop-evaluations g l = l.allowance - l.evaluations
