-- Making a job: each value starts as high as its cap lets it, and floors that no value can reach are found at once.
use Rattle.std.specs.Prelude.{◌≡◌, ℕ, zero, suc, cond, [], ◌∷◌, length, nat_lt}
use Rattle.runs.specs.declared.stage.Make.{Make}
use Rattle.runs.specs.declared.stage.Make.TheVariants.{Classes, Speeds}
use Rattle.runs.specs.declared.stage.Stage.{Stage}
use Rattle.runs.specs.declared.stage.Stage.TheVariants.{Working, Impossible}
use Rattle.grade.specs.Profiles.{Profile, Within}
use Rattle.runs.specs.Settings.{Setting}
use Rattle.runs.specs.Sheets.{Sheet, Sheets, cell}
use Rattle.runs.specs.Jobs.{fresh, Job, job}

-- the caps and floors that a job is made from, a profile of each for each make
pub record Start : Type 0 where
  pub caps : Make → Profile
  pub floors : Make → Profile

-- a start fits its setting: a cap and a floor for each sample, and caps that are ranks of their make
pub record StartLaw (σ : Setting) (s : Start) : Type 0 where
  pub caps_length : (m : Make) → length (s.caps m) ≡ σ.samples
  pub floors_length : (m : Make) → length (s.floors m) ≡ σ.samples
  pub caps_within : (m : Make) → Within (σ.top m) (s.caps m)

-- a sheet with each value at its cap
abbrev pub begun : Profile → Profile → Sheet
begun [] fs = []
begun (c ∷ cs) [] = []
begun (c ∷ cs) (f ∷ fs) = record { value = c; cap = c; floor = f } ∷ begun cs fs

-- the stage where a look over the k samples from i on ends: impossible at the first floor that lies above its cap, else next
unfoldable pub checked : (k i : ℕ) → Sheet → Stage → Stage
checked zero i s next = next
checked (suc k) i s next = cond (nat_lt (cell s i).cap (cell s i).floor) (Impossible i) (checked k (suc i) s next)

-- both sheets as they begin
abbrev pub beginning : Start → Sheets
beginning s = record { classes = begun (s.caps Classes) (s.floors Classes); speeds = begun (s.caps Speeds) (s.floors Speeds) }

-- a new job: at work on its classes, unless a floor is too high; the class floors are looked at before the speed floors
unfoldable pub made : Setting → Start → Job
made σ s =
    let S : Sheets = beginning s in
    job (checked σ.samples 0 S.classes (checked σ.samples 0 S.speeds (Working Classes))) fresh S
