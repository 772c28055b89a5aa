-- The pairs that keep everything in force, and the greatest of them.
use Rattle.std.specs.Prelude.{◌≡◌, ℕ, ◌<◌, ◌≤◌, length}
use Rattle.runs.specs.declared.stage.Make.{Make}
use Rattle.runs.specs.declared.stage.Make.TheVariants.{Classes, Speeds}
use Rattle.grade.specs.Profiles.{Profile, rank, AtMost}
use Rattle.limit.specs.Numbers.{KeptAt}
use Rattle.runs.specs.Settings.{Setting}
use Rattle.runs.specs.Sheets.{Sheets, values, sheet, cell}
use Rattle.runs.specs.InForce.{Bounds}

-- a class profile and a speed profile
abbrev pub Pair : Type 0
Pair = Make → Profile

-- a pair keeps everything: a class and a speed for each sample, both limits kept, no speed above what its class grants,
-- nothing above a cap and nothing below a floor
pub record KeepsAll (σ : Setting) (b : Bounds) (P : Pair) : Type 0 where
  pub long : (m : Make) → length (P m) ≡ σ.samples
  pub limited : (m : Make) (i : ℕ) → i < σ.samples → KeptAt (σ.number m) (P m) i
  pub tabled : (i : ℕ) → i < σ.samples → rank (P Speeds) i ≤ σ.table (rank (P Classes) i)
  pub capped : (m : Make) (i : ℕ) → i < σ.samples → rank (P m) i ≤ b.cap m i
  pub floored : (m : Make) (i : ℕ) → i < σ.samples → b.floor m i ≤ rank (P m) i

-- a pair keeps everything and is the fastest that does: every other one is at most it at each sample, in class and in speed
pub record Greatest (σ : Setting) (b : Bounds) (P : Pair) : Type 0 where
  pub keeping : KeepsAll σ b P
  pub above : (Q : Pair) → KeepsAll σ b Q → (m : Make) → AtMost (Q m) (P m)

-- the pair that a job's sheets hold: its class values and its speed values
abbrev pub own : Sheets → Pair
own S m = values (sheet S m)

-- the caps and floors that the cells of the sheets hold
abbrev pub bounds_in : Sheets → Bounds
bounds_in S = record { cap = λ m i. (cell (sheet S m) i).cap; floor = λ m i. (cell (sheet S m) i).floor }
