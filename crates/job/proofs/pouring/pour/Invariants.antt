use Rattle.std.proofs.Common.{◌≡◌, ◌-◌, length}
use Rattle.runs.specs.Evaluations.{poured}
use Rattle.job.specs.Table.{entry}
use Rattle.job.specs.Whole.{sheets_of}
use Rattle.job.proofs.pouring.pour.Given as goal

-- what is left of the pour gives the whole
abbrev pub invariant-loop-at : goal.invariant-loop-at
invariant-loop-at l =
    let n = length l.initial.speeds in
    poured entry (n - l.at) l.at (sheets_of l.classes l.speeds) ≡ poured entry n 0 (sheets_of l.classes l.initial.speeds)
