-- What making promises from a frame's bytes on: a job made of the caps and floors that the path gives.
use Rattle.std.specs.Prelude.{◌≡◌, ℕ, List, [], length, Ok, Err, Result}
use Rattle.grade.specs.declared.cell.Cell.{Cell}
use Rattle.grade.specs.declared.class.Class.{Class}
use Rattle.grade.specs.declared.speed.Speed.{Speed}
use Rattle.grade.specs.Tops.{class_top, speed_top}
use Rattle.limit.specs.Numbers.{Number, LimitLaw}
use Rattle.runs.specs.Making.{Start}
use Rattle.runs.specs.Law.{RunLaw}
use Rattle.job.specs.declared.job.Job.{Job}
use Rattle.job.specs.Whole.{setting}
use Rattle.job.specs.Holding.{held, whole_of}
use Rattle.frame.specs.Views.{path_of}
use Rattle.planner.specs.declared.fault.MakeFault.{MakeFault}
use Rattle.planner.specs.Asking.{asked}
use Rattle.planner.specs.Starts.{start_from}
use Rattle.planner.specs.Planning.{Refused}
use Rattle.planner.specs.Standing.{Stands}

-- every question before a making says yes
abbrev pub Granted : List ℕ → (classes speeds : ℕ) → Type 0
Granted bs classes speeds = asked bs classes speeds ≡ Ok (path_of bs).header

-- the job j newly made from the start s: as it stands after no call, whatever the limits, and the law where they are lawful
pub record MadeAs (n : ℕ) (s : Start) (classes classes' : List (Cell Class)) (speeds speeds' : List (Cell Speed)) (j : Job) : Type 0 where
  pub stands : (a b : Number) → Stands n s a b [] classes classes' speeds speeds' j
  pub law : (a b : Number) → LimitLaw class_top a → LimitLaw speed_top b → RunLaw (setting n a b) s [] (whole_of (held j classes' speeds'))

-- the job of an accepted frame, with the caps and floors that its path gives
abbrev pub MadeFrom : List ℕ → (classes classes' : List (Cell Class)) → (speeds speeds' : List (Cell Speed)) → Job → Type 0
MadeFrom bs classes classes' speeds speeds' j = MadeAs (path_of bs).header.samples (start_from (path_of bs)) classes classes' speeds speeds' j

-- after a yes
pub record AskedAndMade (bs : List ℕ) (classes classes' : List (Cell Class)) (speeds speeds' : List (Cell Speed)) (j : Job) : Type 0 where
  pub granted : Granted bs (length classes) (length speeds)
  pub made : MadeFrom bs classes classes' speeds speeds' j

-- what asking and making in one call promise
abbrev pub MakesFrom : List ℕ → (classes classes' : List (Cell Class)) → (speeds speeds' : List (Cell Speed)) → Result Job MakeFault → Type 0
MakesFrom bs classes classes' speeds speeds' (Ok j) = AskedAndMade bs classes classes' speeds speeds' j
MakesFrom bs classes classes' speeds speeds' (Err f) = Refused bs classes classes' speeds speeds' f
