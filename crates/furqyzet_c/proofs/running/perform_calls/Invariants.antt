use Rattle.std.proofs.Common.{◌≡◌, ◌++◌, take, drop}
use Rattle.frame.specs.Views.{path_of}
use Rattle.sources.specs.Sources.{class_number, speed_number}
use Rattle.runs.specs.Settings.{Setting}
use Rattle.runs.specs.Runs.{run}
use Rattle.job.specs.Calling.{Holds}
use Rattle.job.specs.Holding.{Held, held, setting_of, whole_of}
use Rattle.furqyzet_c.specs.Answers.{replies}
use Rattle.furqyzet_c.specs.Calls.{calls_in}
use Rattle.furqyzet_c.proofs.running.perform_calls.Given as goal

-- so many calls are made and answered
abbrev pub invariant-loop-at : goal.invariant-loop-at
invariant-loop-at l =
    let a = class_number (path_of l.frame.bytes.now) in
    let b = speed_number (path_of l.frame.bytes.now) in
    let start : Held = held l.initial.job l.initial.classes l.initial.speeds in
    let here : Held = held l.job l.classes l.speeds in
    let σ : Setting = setting_of a b start in
    Holds (run σ (calls_in (take l.at l.placed)) (whole_of start)) start here
    × (l.answers ≡ replies σ (take l.at l.placed) (whole_of start) ++ drop l.at l.initial.answers)
