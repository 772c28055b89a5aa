-- A job with the two memories that are handed beside it, and the starts and calls that lead to one.
use Rattle.std.specs.Prelude.{◌≡◌, ℕ, List, length, take, Ok, Err, nat_le}
use Rattle.grade.specs.declared.cell.Cell.{Cell}
use Rattle.grade.specs.declared.class.Class.{Class}
use Rattle.grade.specs.declared.speed.Speed.{Speed}
use Rattle.limit.specs.Numbers.{Number}
use Rattle.runs.specs.declared.call.Call.{Call}
use Rattle.runs.specs.declared.call.Fault.{Fault}
use Rattle.runs.specs.declared.call.Fault.TheVariants.{NoClassMemory, NoSpeedMemory}
use Rattle.runs.specs.Settings.{Setting}
use Rattle.runs.specs.Jobs.{Job as Whole}
use Rattle.runs.specs.Making.{Start, StartLaw}
use Rattle.runs.specs.Calls.{Verdict, granted, ask}
use Rattle.runs.specs.Runs.{after}
use Rattle.job.specs.declared.job.Job.{Job}
use Rattle.job.specs.Whole.{whole, setting}

-- a job and the cells of the two memories beside it, which may be more than it has samples
pub record Held : Type 0 where
  pub job : Job
  pub classes : List (Cell Class)
  pub speeds : List (Cell Speed)

abbrev pub held : Job → List (Cell Class) → List (Cell Speed) → Held
held j classes speeds = record { job = j; classes = classes; speeds = speeds }

-- how many samples the job has
abbrev pub count : Held → ℕ
count h = h.job.samples.count

-- the job with its sheets: as many cells of each memory as it has samples
abbrev pub whole_of : Held → Whole
whole_of h = whole h.job (take (count h) h.classes) (take (count h) h.speeds)

-- what it works under, with limits of these numbers
abbrev pub setting_of : (classes speeds : Number) → Held → Setting
setting_of classes speeds h = setting (count h) classes speeds

-- do memories of so many cells hold n samples? and then the questions after these
abbrev pub room_for : (n classes speeds : ℕ) → Verdict → Verdict
room_for n classes speeds rest = ask (nat_le n classes) NoClassMemory (ask (nat_le n speeds) NoSpeedMemory rest)

-- do the memories hold the job's samples?
abbrev pub room : Held → Verdict
room h = room_for (count h) (length h.classes) (length h.speeds) granted

-- what follows a yes, or the fault of the first no
abbrev pub judged : {X : Type 0} → Verdict → X → (Fault → X) → X
judged (Ok _) x fault = x
judged (Err f) x fault = fault f

-- under limits of these numbers, a job newly made from the start s stands so after the calls cs
pub record Led (a b : Number) (s : Start) (cs : List Call) (h : Held) : Type 0 where
  pub start : StartLaw (setting_of a b h) s
  pub room : room h ≡ granted
  pub job : whole_of h ≡ after (setting_of a b h) s cs
