-- The binding constraint of a sample.
use Rattle.std.specs.Prelude.{◌≡◌, ℕ, Bool, true, cond, ◌&&◌, List, length, take, pos, Some, None, Option, ◌≢◌, nat_lt}
use Rattle.grade.specs.declared.cell.Cell.{Cell}
use Rattle.grade.specs.declared.class.Class.{Class}
use Rattle.grade.specs.declared.speed.Speed.{Speed}
use Rattle.frame.specs.Paths.{Path}
use Rattle.runs.specs.declared.stage.Make.{Make}
use Rattle.runs.specs.declared.stage.Make.TheVariants.{Classes, Speeds}
use Rattle.runs.specs.Keeping.{Greatest, own, bounds_in}
use Rattle.runs.specs.Sheets.{Sheets, sheet, cell}
use Rattle.sources.specs.Sources.{class_number, speed_number}
use Rattle.job.specs.Whole.{setting, sheets_of, top_of}
use Rattle.binding.specs.declared.bound.Bound.{Bound}
use Rattle.binding.specs.declared.bound.Found.{Found}
use Rattle.binding.specs.declared.question.Question.TheVariants.{Reaches}
use Rattle.binding.specs.Bounds.{allowed, bounds_of, least_of, together}
use Rattle.binding.specs.Questions.{first}

-- the sheets of a path's samples, in memories that may have more cells
abbrev pub sheets_on : Path → List (Cell Class) → List (Cell Speed) → Sheets
sheets_on path classes speeds = sheets_of (take path.header.samples classes) (take path.header.samples speeds)

-- is there such a sample? Of squared speeds its class is asked for too
abbrev pub inside : Sheets → Make → ℕ → Bool
inside S Classes i = nat_lt i (length S.classes)
inside S Speeds i = nat_lt i (length S.classes) && nat_lt i (length S.speeds)

abbrev pub bound_in_of : Option Found → Option Bound
bound_in_of None = None
bound_in_of (Some f) = Some f.bound

-- the first bound of a sample that allows just its value
abbrev pub bound_of : Path → Sheets → Make → ℕ → Option Bound
bound_of path S m i = bound_in_of (first (Reaches (cell (sheet S m) i).value) (allowed path S m i) (bounds_of path m))

-- the same, where there is such a sample
abbrev pub binding : Path → Sheets → Make → ℕ → Option Bound
binding path S m i = cond (inside S m i) (bound_of path S m i) None

-- the sheets hold the greatest pair that keeps the path's limits, the class table and the cells' own caps and floors, as those
-- of every settled job do
abbrev pub HoldGreatest : Path → Sheets → Type 0
HoldGreatest path S = Greatest (setting (length S.classes) (class_number path) (speed_number path)) (bounds_in S) (own S)

-- r is the binding constraint of sample i
pub record Binds (path : Path) (S : Sheets) (m : Make) (i : ℕ) (r : Option Bound) : Type 0 where
  pub bound : r ≡ binding path S m i
  -- the bounds are all there are: the least of them is what the sample may at most be, by cap, class and limit
  pub least : least_of (top_of m) (allowed path S m i) (bounds_of path m) ≡ together path S m i
  -- so a sample that is there and has no binding constraint is not at what it may at most be
  pub free : r ≡ None → inside S m i ≡ true → pos (cell (sheet S m) i).value ≢ together path S m i
  -- and where the sheets hold the greatest pair, every sample that is there has one
  pub held : HoldGreatest path S → inside S m i ≡ true → r ≢ None
