-- Making a job from the caps and floors that its memory holds.
use Rattle.std.specs.Prelude.{◌≡◌, ℕ, List, [], map, length, take, drop, Ok, Err, Result}
use Rattle.grade.specs.declared.cell.Cell.{Cell}
use Rattle.grade.specs.declared.class.Class.{Class}
use Rattle.grade.specs.declared.speed.Speed.{Speed}
use Rattle.grade.specs.Profiles.{Profile}
use Rattle.grade.specs.Ranks.{class_rank, speed_rank, ranked_all}
use Rattle.grade.specs.Tops.{class_top, speed_top}
use Rattle.limit.specs.Numbers.{Number, LimitLaw}
use Rattle.runs.specs.declared.call.Fault.{Fault}
use Rattle.runs.specs.declared.samples.Samples.{Samples}
use Rattle.runs.specs.declared.stage.Make.{Make}
use Rattle.runs.specs.declared.stage.Make.TheVariants.{Classes, Speeds}
use Rattle.runs.specs.declared.stage.Stage.{Stage}
use Rattle.runs.specs.declared.stage.Stage.TheVariants.{Working}
use Rattle.runs.specs.Sheets.{Sheet}
use Rattle.runs.specs.Calls.{granted, refused}
use Rattle.runs.specs.Making.{Start, checked, made}
use Rattle.runs.specs.Law.{RunLaw}
use Rattle.sweep.specs.Beginnings.{at_cap}
use Rattle.job.specs.declared.job.Job.{Job}
use Rattle.job.specs.Whole.{setting}
use Rattle.job.specs.Holding.{held, whole_of, room_for, Led}

-- the caps of a sheet
abbrev pub caps_of : Sheet → Profile
caps_of s = map (λ (c : Cell ℕ). c.cap) s

-- the floors of a sheet
abbrev pub floors_of : Sheet → Profile
floors_of s = map (λ (c : Cell ℕ). c.floor) s

-- the first n cells that are handed in, of one make, as ranks
abbrev pub handed : ℕ → List (Cell Class) → List (Cell Speed) → Make → Sheet
handed n classes speeds Classes = ranked_all class_rank (take n classes)
handed n classes speeds Speeds = ranked_all speed_rank (take n speeds)

-- the start that the cells give: their caps and floors; the values that they hold do not count
abbrev pub start_of : ℕ → List (Cell Class) → List (Cell Speed) → Start
start_of n classes speeds = record { caps = λ m. caps_of (handed n classes speeds m); floors = λ m. floors_of (handed n classes speeds m) }

-- the stage after both sheets are checked, classes first
abbrev pub opened : List (Cell Class) → List (Cell Speed) → Stage
opened classes speeds = checked (length classes) 0 (ranked_all class_rank classes) (checked (length speeds) 0 (ranked_all speed_rank speeds) (Working Classes))

-- the job j is made of the memory, which ends as classes' and speeds'
pub record Made (samples : Samples) (classes classes' : List (Cell Class)) (speeds speeds' : List (Cell Speed)) (j : Job) : Type 0 where
  pub room : room_for samples.count (length classes) (length speeds) granted ≡ granted
  pub samples_are : j.samples ≡ samples
  pub job : (a b : Number) → whole_of (held j classes' speeds') ≡ made (setting samples.count a b) (start_of samples.count classes speeds)
  -- the cells of the samples, each value at its cap, and those past them
  pub classes_are : take samples.count classes' ≡ map at_cap (take samples.count classes)
  pub speeds_are : take samples.count speeds' ≡ map at_cap (take samples.count speeds)
  pub past_classes : drop samples.count classes' ≡ drop samples.count classes
  pub past_speeds : drop samples.count speeds' ≡ drop samples.count speeds
  pub long_classes : length classes' ≡ length classes
  pub long_speeds : length speeds' ≡ length speeds
  -- the start that the cells give leads here with no call, under whatever limits, and the law holds of no call under lawful ones
  pub leads : (a b : Number) → Led a b (start_of samples.count classes speeds) [] (held j classes' speeds')
  pub law : (a b : Number) → LimitLaw class_top a → LimitLaw speed_top b → RunLaw (setting samples.count a b) (start_of samples.count classes speeds) [] (whole_of (held j classes' speeds'))

-- a refused making changes nothing
pub record Unmade (samples : Samples) (classes classes' : List (Cell Class)) (speeds speeds' : List (Cell Speed)) (f : Fault) : Type 0 where
  pub fault : refused f ≡ room_for samples.count (length classes) (length speeds) granted
  pub same_classes : classes' ≡ classes
  pub same_speeds : speeds' ≡ speeds

-- what making promises
abbrev pub Makes : Samples → (classes classes' : List (Cell Class)) → (speeds speeds' : List (Cell Speed)) → Result Job Fault → Type 0
Makes samples classes classes' speeds speeds' (Ok j) = Made samples classes classes' speeds speeds' j
Makes samples classes classes' speeds speeds' (Err f) = Unmade samples classes classes' speeds speeds' f
