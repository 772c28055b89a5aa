-- What a sequence of calls promises of the job, the memory beside it and the answers.
use Rattle.std.specs.Prelude.{◌≡◌, ℕ, List, ◌++◌, length, take, drop, Ok, Err, Result}
use Rattle.limit.specs.Numbers.{Number}
use Rattle.runs.specs.Answers.{Answer}
use Rattle.runs.specs.declared.call.Call.{Call}
use Rattle.runs.specs.declared.call.Fault.{Fault}
use Rattle.runs.specs.Runs.{run, answers}
use Rattle.job.specs.Holding.{Held, whole_of, setting_of, room, judged}
use Rattle.job.specs.Calling.{Holds}

-- the calls for whose answers there is a place
abbrev pub placed : List Call → List Answer → List Call
placed calls places = take (length places) calls

-- under limits of these numbers the calls take h to h' and write their answers over the first old ones; without room
-- for the samples nothing changes
pub record Runs (a b : Number) (calls : List Call) (h h' : Held) (old new : List Answer) (r : Result ℕ Fault) : Type 0 where
  pub returned : r ≡ judged (room h) (Ok (length calls)) Err
  pub holds : Holds (judged (room h) (run (setting_of a b h) calls (whole_of h)) (λ _. whole_of h)) h h'
  pub answered : new ≡ judged (room h) (answers (setting_of a b h) calls (whole_of h) ++ drop (length calls) old) (λ _. old)
  -- refused, it leaves the very job and the very cells
  pub unchanged : (f : Fault) → r ≡ Err f → h' ≡ h
