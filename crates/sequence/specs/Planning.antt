-- What a whole plan promises: a job made of its memory, and a sequence of calls on it.
use Rattle.std.specs.Prelude.{◌≡◌, List, ◌++◌, length, take, drop, Ok, Err, Result}
use Rattle.grade.specs.declared.cell.Cell.{Cell}
use Rattle.grade.specs.declared.class.Class.{Class}
use Rattle.grade.specs.declared.speed.Speed.{Speed}
use Rattle.limit.specs.Numbers.{Number}
use Rattle.runs.specs.Answers.{Answer}
use Rattle.runs.specs.declared.call.Call.{Call}
use Rattle.runs.specs.declared.call.Fault.{Fault}
use Rattle.runs.specs.declared.samples.Samples.{Samples}
use Rattle.runs.specs.Calls.{granted}
use Rattle.runs.specs.Making.{made}
use Rattle.runs.specs.Runs.{answers, after}
use Rattle.runs.specs.Law.{RunLaw}
use Rattle.job.specs.declared.job.Job.{Job}
use Rattle.job.specs.Grades.{class_of, speed_of, cells_of}
use Rattle.job.specs.Whole.{setting}
use Rattle.job.specs.Holding.{held, whole_of, room_for, Led}
use Rattle.job.specs.Making.{start_of, Unmade}

-- under limits of these numbers, the job j after the calls, and the memory as it ends
pub record Planned (a b : Number) (samples : Samples) (calls : List Call) (classes classes' : List (Cell Class)) (speeds speeds' : List (Cell Speed)) (old new : List Answer) (j : Job) : Type 0 where
  pub room : room_for samples.count (length classes) (length speeds) granted ≡ granted
  pub samples_are : j.samples ≡ samples
  -- the stage, the sweep and the sheets as ranks: those after the calls, from the start that the cells give
  pub job : whole_of (held j classes' speeds') ≡ after (setting samples.count a b) (start_of samples.count classes speeds) calls
  -- the cells of the samples, and those past them
  pub classes_are : take samples.count classes' ≡ cells_of class_of (after (setting samples.count a b) (start_of samples.count classes speeds) calls).sheets.classes
  pub speeds_are : take samples.count speeds' ≡ cells_of speed_of (after (setting samples.count a b) (start_of samples.count classes speeds) calls).sheets.speeds
  pub past_classes : drop samples.count classes' ≡ drop samples.count classes
  pub past_speeds : drop samples.count speeds' ≡ drop samples.count speeds
  pub long_classes : length classes' ≡ length classes
  pub long_speeds : length speeds' ≡ length speeds
  -- the answer of every call
  pub answered : new ≡ answers (setting samples.count a b) calls (made (setting samples.count a b) (start_of samples.count classes speeds)) ++ drop (length calls) old
  -- the law, whole
  pub law : RunLaw (setting samples.count a b) (start_of samples.count classes speeds) calls (whole_of (held j classes' speeds'))
  -- and calls that follow go on from here
  pub leads : Led a b (start_of samples.count classes speeds) calls (held j classes' speeds')

-- a refused making changes nothing
pub record Unplanned (samples : Samples) (classes classes' : List (Cell Class)) (speeds speeds' : List (Cell Speed)) (old new : List Answer) (f : Fault) : Type 0 where
  pub unmade : Unmade samples classes classes' speeds speeds' f
  pub same_answers : new ≡ old

-- what a plan promises
abbrev pub Plans : (a b : Number) → Samples → List Call → (classes classes' : List (Cell Class)) → (speeds speeds' : List (Cell Speed)) → (old new : List Answer) → Result Job Fault → Type 0
Plans a b samples calls classes classes' speeds speeds' old new (Ok j) = Planned a b samples calls classes classes' speeds speeds' old new j
Plans a b samples calls classes classes' speeds speeds' old new (Err f) = Unplanned samples classes classes' speeds speeds' old new f
