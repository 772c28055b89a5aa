-- The invariant: how the sheets and the stage of a job stand to the bounds in force.
use Rattle.std.proofs.Common.{◌≡◌, ℕ, ◌+◌, ◌<◌, ◌≤◌, true, false, length, sym}
use Rattle.std.proofs.lemmas.Bool.{false≢true}
use Rattle.grade.specs.declared.cell.Cell.{Cell}
use Rattle.runs.specs.declared.stage.Direction.{Direction}
use Rattle.runs.specs.declared.stage.Direction.TheVariants.{Rising, Falling}
use Rattle.runs.specs.declared.stage.Make.{Make}
use Rattle.runs.specs.declared.stage.Make.TheVariants.{Classes, Speeds}
use Rattle.runs.specs.declared.stage.Stage.{Stage}
use Rattle.runs.specs.declared.stage.Stage.TheVariants.{Working, Settled, Impossible}
use Rattle.runs.specs.declared.stage.Sweep.{Sweep}
use Rattle.grade.specs.Profiles.{rank}
use Rattle.limit.specs.Numbers.{KeptAt}
use Rattle.runs.specs.Settings.{Setting}
use Rattle.runs.specs.Sheets.{Sheets, cell, sheet}
use Rattle.runs.specs.Jobs.{Job}
use Rattle.runs.specs.Calls.{is_possible}
use Rattle.runs.specs.InForce.{Bounds}
use Rattle.runs.specs.Keeping.{Pair, KeepsAll, own, bounds_in}
use Rattle.runs.specs.Law.{SameBounds}

-- a cell holds the bounds in force, its value lies between them, and no pair that keeps all is above it
pub record Fits (σ : Setting) (b : Bounds) (m : Make) (k : ℕ) (c : Cell ℕ) : Type 0 where
  pub cap_is : c.cap ≡ b.cap m k
  pub floor_is : c.floor ≡ b.floor m k
  pub floored : c.floor ≤ c.value
  pub capped : c.value ≤ c.cap
  pub within : c.cap ≤ σ.top m
  pub covers : (P : Pair) → KeepsAll σ b P → rank (P m) k ≤ c.value

pub record Fitting (σ : Setting) (b : Bounds) (S : Sheets) : Type 0 where
  pub long : (m : Make) → length (sheet S m) ≡ σ.samples
  pub each : (m : Make) (k : ℕ) → k < σ.samples → Fits σ b m k (cell (sheet S m) k)

-- the cells hold the bounds in force
pub record Holding (σ : Setting) (b : Bounds) (S : Sheets) : Type 0 where
  pub long : (m : Make) → length (sheet S m) ≡ σ.samples
  pub bounds : SameBounds σ b (bounds_in S)

pub fitting_holds : (σ : Setting) (b : Bounds) (S : Sheets) → Fitting σ b S → Holding σ b S
fitting_holds σ b S f = record { long = f.long; bounds = λ m k h. (sym (f.each m k h).cap_is, sym (f.each m k h).floor_is) }

abbrev pub Hopeless : Setting → Bounds → Type 0
Hopeless σ b = (P : Pair) → KeepsAll σ b P → ⊥

-- the profile of a make keeps its limit
abbrev pub Limited : Setting → Make → Pair → Type 0
Limited σ m P = (i : ℕ) → i < σ.samples → KeptAt (σ.number m) (P m) i

-- each speed is at most its class's entry
abbrev pub Tabled : Setting → Pair → Type 0
Tabled σ P = (i : ℕ) → i < σ.samples → rank (P Speeds) i ≤ σ.table (rank (P Classes) i)

-- what holds before work on a make begins, and as long as it goes on
abbrev pub Ready : Setting → Make → Pair → Type 0
Ready σ Classes P = Unit {0}
Ready σ Speeds P = Limited σ Classes P × Tabled σ P

-- the samples that a sweep has visited: from the first on if it rises, from the last down if not
abbrev pub Visited : ℕ → Direction → ℕ → ℕ → Type 0
Visited n Rising v i = i < v
Visited n Falling v i = n ≤ i + v

-- in an unmarked sweep each sample visited keeps the limit
abbrev pub Swept : Setting → Make → Sweep → Pair → Type 0
Swept σ m w P =
    w.marked ≡ false → (i : ℕ) → i < σ.samples → Visited σ.samples w.direction w.visited i → KeptAt (σ.number m) (P m) i

-- how far the work on a job's own pair has come
abbrev pub Reached : Setting → Stage → Sweep → Pair → Type 0
Reached σ (Working m) w P = Ready σ m P × (w.visited < σ.samples) × Swept σ m w P
Reached σ Settled w P = Ready σ Speeds P × Limited σ Speeds P
Reached σ (Impossible i) w P = Unit {0}

abbrev pub Standing : Setting → Bounds → Stage → Sweep → Sheets → Type 0
Standing σ b (Working m) w S = Fitting σ b S × Reached σ (Working m) w (own S)
Standing σ b Settled w S = Fitting σ b S × Reached σ Settled w (own S)
Standing σ b (Impossible i) w S = Hopeless σ b × (i < σ.samples) × Holding σ b S

abbrev pub Stands : Setting → Bounds → Job → Type 0
Stands σ b j = Standing σ b j.stage j.sweep j.sheets

-- the two parts of the invariant at a stage that is not impossible
module _ (σ : Setting) (b : Bounds) where
  pub parts : (t : Stage) (w : Sweep) (S : Sheets) → is_possible t ≡ true → Standing σ b t w S → Fitting σ b S × Reached σ t w (own S)
  parts (Working m) w S p s = s
  parts Settled w S p s = s
  parts (Impossible i) w S p s = absurd (false≢true p)

  pub whole : (t : Stage) (w : Sweep) (S : Sheets) → is_possible t ≡ true → Fitting σ b S → Reached σ t w (own S) → Standing σ b t w S
  whole (Working m) w S p f r = (f, r)
  whole Settled w S p f r = (f, r)
  whole (Impossible i) w S p f r = absurd (false≢true p)

  pub standing_holds : (t : Stage) (w : Sweep) (S : Sheets) → Standing σ b t w S → Holding σ b S
  standing_holds (Working m) w S s = fitting_holds σ b S s.0
  standing_holds Settled w S s = fitting_holds σ b S s.0
  standing_holds (Impossible i) w S (_, _, h) = h
