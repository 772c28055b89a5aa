-- Visits of a sweep one after another, each of which finds room and none of which ends the sweep, as an advance makes them.
use Rattle.std.specs.Prelude.{◌≡◌, ℕ, ◌+◌, List, length}
use Rattle.grade.specs.declared.cell.Cell.{Cell}
use Rattle.grade.specs.Ranks.{ranked_all}
use Rattle.limit.specs.Numbers.{Number}
use Rattle.runs.specs.declared.stage.Make.{Make}
use Rattle.runs.specs.declared.stage.Make.TheVariants.{Classes, Speeds}
use Rattle.runs.specs.declared.stage.Stage.TheVariants.{Working}
use Rattle.runs.specs.declared.stage.Sweep.{Sweep}
use Rattle.runs.specs.Settings.{Setting}
use Rattle.runs.specs.Sheets.{Sheet, Sheets, sheet}
use Rattle.runs.specs.Jobs.{job}
use Rattle.runs.specs.Calls.{Course, advanced}

-- the sheets with another one of a make
abbrev pub replaced : Make → Sheet → Sheets → Sheets
replaced Classes s S = record { classes = s; speeds = S.speeds }
replaced Speeds s S = record { classes = S.classes; speeds = s }

-- after e evaluations and l lowerings before
abbrev pub further : (e l : ℕ) → Course → Course
further e l p = record { job = p.job; evaluations = e + p.evaluations; lowerings = l + p.lowerings }

-- d visits lead from the sweep w over the cells old to the sweep v over the cells new, and lower l values: whatever the
-- setting and the other sheet, an advance by d more goes on from there
abbrev pub Passes : {G : Type 0} → (G → ℕ) → Number → (w v : Sweep) → (old new : List (Cell G)) → (d l : ℕ) → Type 0
Passes rank number w v old new d l =
    (σ : Setting) (m : Make) (S : Sheets) (k : ℕ) → σ.samples ≡ length old → σ.number m ≡ number → sheet S m ≡ ranked_all rank old
    → advanced σ (d + k) (job (Working m) w S) ≡ further d l (advanced σ k (job (Working m) v (replaced m (ranked_all rank new) S)))
