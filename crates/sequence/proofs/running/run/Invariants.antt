use Rattle.std.proofs.Common.{◌≡◌, ◌++◌, take, drop}
use Rattle.runs.specs.Settings.{Setting}
use Rattle.runs.specs.Runs.{run, answers}
use Rattle.job.specs.Whole.{setting}
use Rattle.job.specs.Holding.{Held, held, whole_of}
use Rattle.job.specs.Calling.{Holds}
use Rattle.sequence.proofs.running.run.Given as goal

-- so many calls are made and answered
abbrev pub invariant-loop-at : goal.invariant-loop-at
invariant-loop-at g l =
    let σ : Setting = setting l.initial.job.samples.count (g.C.Limit.number l.limits.classes.now) (g.S.Limit.number l.limits.speeds.now) in
    let start : Held = held l.initial.job l.initial.classes l.initial.speeds in
    let here : Held = held l.job l.classes l.speeds in
    Holds (run σ (take l.at l.placed) (whole_of start)) start here
    × (l.answers ≡ answers σ (take l.at l.placed) (whole_of start) ++ drop l.at l.initial.answers)
