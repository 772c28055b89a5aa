-- A job of a path as it stands after calls, with the memory beside it.
use Rattle.std.specs.Prelude.{◌≡◌, ℕ, List, length, take, drop}
use Rattle.grade.specs.declared.cell.Cell.{Cell}
use Rattle.grade.specs.declared.class.Class.{Class}
use Rattle.grade.specs.declared.speed.Speed.{Speed}
use Rattle.limit.specs.Numbers.{Number}
use Rattle.runs.specs.declared.call.Call.{Call}
use Rattle.runs.specs.Making.{Start}
use Rattle.runs.specs.Runs.{after}
use Rattle.job.specs.declared.job.Job.{Job}
use Rattle.job.specs.Grades.{class_of, speed_of, cells_of}
use Rattle.job.specs.Whole.{setting}
use Rattle.job.specs.Holding.{held, whole_of, Led}

-- the job j of n samples, made from the start s, as it stands after the calls under limits of these numbers, and the memory with it
pub record Stands (n : ℕ) (s : Start) (a b : Number) (calls : List Call) (classes classes' : List (Cell Class)) (speeds speeds' : List (Cell Speed)) (j : Job) : Type 0 where
  pub samples_are : j.samples.count ≡ n
  -- the stage, the sweep and the sheets as ranks
  pub job : whole_of (held j classes' speeds') ≡ after (setting n a b) s calls
  -- the cells of the samples, and those past them
  pub classes_are : take n classes' ≡ cells_of class_of (after (setting n a b) s calls).sheets.classes
  pub speeds_are : take n speeds' ≡ cells_of speed_of (after (setting n a b) s calls).sheets.speeds
  pub past_classes : drop n classes' ≡ drop n classes
  pub past_speeds : drop n speeds' ≡ drop n speeds
  pub long_classes : length classes' ≡ length classes
  pub long_speeds : length speeds' ≡ length speeds
  -- and calls that follow go on from here
  pub leads : Led a b s calls (held j classes' speeds')
