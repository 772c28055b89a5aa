-- A bound of a sample below its floor.
use Rattle.std.specs.Prelude.{◌≡◌, ℕ, true, cond, pos, ◌≤ℤ◌, Some, None, Option}
use Rattle.std.specs.Option.{option_or}
use Rattle.frame.specs.Paths.{Path}
use Rattle.runs.specs.declared.stage.Make.{Make}
use Rattle.runs.specs.declared.stage.Make.TheVariants.{Classes, Speeds}
use Rattle.runs.specs.Sheets.{Sheets, sheet, cell}
use Rattle.binding.specs.declared.bound.Clash.{Clash}
use Rattle.binding.specs.declared.bound.Found.{Found}
use Rattle.binding.specs.declared.question.Question.TheVariants.{FallsShort}
use Rattle.binding.specs.Binding.{inside}
use Rattle.binding.specs.Bounds.{allowed, bounds_of, together}
use Rattle.binding.specs.Questions.{first}

abbrev pub clash_in_of : Make → ℕ → Option Found → Option Clash
clash_in_of m floor None = None
clash_in_of m floor (Some f) = Some (record { make = m; bound = f.bound; most = f.most; floor = floor })

-- the first bound of a make that allows less than the floor
abbrev pub clash_of : Path → Sheets → Make → ℕ → Option Clash
clash_of path S m i = clash_in_of m (cell (sheet S m) i).floor (first (FallsShort (cell (sheet S m) i).floor) (allowed path S m i) (bounds_of path m))

-- the same, of classes or else of squared speeds
abbrev pub clashing : Path → Sheets → ℕ → Option Clash
clashing path S i = cond (inside S Speeds i) (option_or (clash_of path S Classes i) (clash_of path S Speeds i)) None

-- r is the clash at sample i
pub record Clashes (path : Path) (S : Sheets) (i : ℕ) (r : Option Clash) : Type 0 where
  pub clash : r ≡ clashing path S i
  -- where a sample is there and has no clash, neither floor is above what the sample may at most be
  pub clear : r ≡ None → inside S Speeds i ≡ true → (m : Make) → pos (cell (sheet S m) i).floor ≤ℤ together path S m i
