-- What a plan promises from a frame's bytes on: a job made of the caps and floors that the path gives, and a sequence of
-- calls on it.
use Rattle.std.specs.Prelude.{◌≡◌, ℕ, List, ◌++◌, length, drop, Ok, Err, Result}
use Rattle.grade.specs.declared.cell.Cell.{Cell}
use Rattle.grade.specs.declared.class.Class.{Class}
use Rattle.grade.specs.declared.speed.Speed.{Speed}
use Rattle.limit.specs.Numbers.{Number}
use Rattle.runs.specs.Answers.{Answer}
use Rattle.runs.specs.declared.call.Call.{Call}
use Rattle.runs.specs.Making.{Start, made}
use Rattle.runs.specs.Runs.{answers}
use Rattle.runs.specs.Law.{RunLaw}
use Rattle.job.specs.declared.job.Job.{Job}
use Rattle.job.specs.Whole.{setting}
use Rattle.job.specs.Holding.{held, whole_of}
use Rattle.frame.specs.Views.{path_of}
use Rattle.planner.specs.declared.fault.MakeFault.{MakeFault}
use Rattle.planner.specs.Asking.{asked}
use Rattle.planner.specs.Standing.{Stands}
use Rattle.planner.specs.Starts.{start_from}

-- under limits of these numbers, the job j of n samples made from the start s, after the calls, and the memory as it ends
pub record PlannedAs (n : ℕ) (s : Start) (a b : Number) (calls : List Call) (classes classes' : List (Cell Class)) (speeds speeds' : List (Cell Speed)) (old new : List Answer) (j : Job) : Type 0 where
  pub stands : Stands n s a b calls classes classes' speeds speeds' j
  -- the answer of every call
  pub answered : new ≡ answers (setting n a b) calls (made (setting n a b) s) ++ drop (length calls) old
  -- the law, whole
  pub law : RunLaw (setting n a b) s calls (whole_of (held j classes' speeds'))

-- of an accepted frame, with the caps and floors that its path gives
pub record PlannedFrom (bs : List ℕ) (a b : Number) (calls : List Call) (classes classes' : List (Cell Class)) (speeds speeds' : List (Cell Speed)) (old new : List Answer) (j : Job) : Type 0 where
  pub granted : asked bs (length classes) (length speeds) ≡ Ok (path_of bs).header
  pub planned : PlannedAs (path_of bs).header.samples (start_from (path_of bs)) a b calls classes classes' speeds speeds' old new j

-- a refused making changes nothing
pub record Refused (bs : List ℕ) (classes classes' : List (Cell Class)) (speeds speeds' : List (Cell Speed)) (f : MakeFault) : Type 0 where
  pub fault : asked bs (length classes) (length speeds) ≡ Err f
  pub same_classes : classes' ≡ classes
  pub same_speeds : speeds' ≡ speeds

pub record Unplanned (bs : List ℕ) (classes classes' : List (Cell Class)) (speeds speeds' : List (Cell Speed)) (old new : List Answer) (f : MakeFault) : Type 0 where
  pub refused : Refused bs classes classes' speeds speeds' f
  pub same_answers : new ≡ old

-- what a plan promises
abbrev pub PlansFrom : (bs : List ℕ) → (a b : Number) → List Call → (classes classes' : List (Cell Class)) → (speeds speeds' : List (Cell Speed)) → (old new : List Answer) → Result Job MakeFault → Type 0
PlansFrom bs a b calls classes classes' speeds speeds' old new (Ok j) = PlannedFrom bs a b calls classes classes' speeds speeds' old new j
PlansFrom bs a b calls classes classes' speeds speeds' old new (Err f) = Unplanned bs classes classes' speeds speeds' old new f
