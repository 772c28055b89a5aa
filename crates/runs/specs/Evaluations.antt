-- One evaluation: the limit is asked at the sweep's next sample, and the job goes on from its answer.
use Rattle.std.specs.Prelude.{ℕ, zero, suc, min, cond, ℤ, pos, negsuc, nat_lt}
use Rattle.runs.specs.declared.finding.Finding.{Finding}
use Rattle.runs.specs.declared.finding.Finding.TheVariants.{Keeps, Lowers, Clashes}
use Rattle.grade.specs.declared.cell.Cell.{Cell}
use Rattle.runs.specs.declared.stage.Make.{Make}
use Rattle.runs.specs.declared.stage.Make.TheVariants.{Classes, Speeds}
use Rattle.runs.specs.declared.stage.Stage.TheVariants.{Working, Settled, Impossible}
use Rattle.runs.specs.declared.stage.Sweep.{Sweep}
use Rattle.runs.specs.Settings.{Setting}
use Rattle.runs.specs.Sheets.{Sheets, cell, values, sheet, put, with_value}
use Rattle.runs.specs.Jobs.{fresh, marking, onward, turned, upcoming, Job, job}

-- what a number of the limit means for a cell: the value may stay, has to fall to it, or has no room above the floor
unfoldable pub found : Cell ℕ → ℤ → Finding
found c (pos r) = cond (nat_lt r c.floor) Clashes (cond (nat_lt r c.value) (Lowers r) Keeps)
found c (negsuc _) = Clashes

-- the pour, from the classes into the speeds: of the k samples from i on, one after another, no speed stays above what
-- the table grants its class; where that is below the speed's floor, nothing more is poured and the job has failed there
unfoldable pub poured : (table : ℕ → ℕ) → (k i : ℕ) → Sheets → Job
poured table zero i S = job (Working Speeds) fresh S
poured table (suc k) i S =
    let entry : ℕ = table (cell S.classes i).value in
    let c : Cell ℕ = cell S.speeds i in
    cond (nat_lt entry c.floor) (job (Impossible i) fresh S) (poured table k (suc i) (put Speeds i (with_value (min c.value entry) c) S))

-- a whole sweep found nothing to lower: the classes are poured into the speeds, or the speeds are final
abbrev pub finished : Setting → Make → Sheets → Job
finished σ Classes S = poured σ.table σ.samples 0 S
finished σ Speeds S = job Settled fresh S

-- the job after a visit: the sweep goes on; or it was the last sample and a value fell, so that a sweep back begins; or none fell
unfoldable pub continued : Setting → Make → Sweep → Sheets → Job
continued σ m w S =
    cond (nat_lt w.visited σ.samples) (job (Working m) w S)
    (cond w.marked (job (Working m) (turned w) S) (finished σ m S))

-- what is made of a finding at sample i: a value falls and marks the sweep, or the job has failed there
unfoldable pub followed : Setting → Make → ℕ → Finding → Sweep → Sheets → Job
followed σ m i Keeps w S = continued σ m (onward w) S
followed σ m i (Lowers r) w S = continued σ m (marking (onward w)) (put m i (with_value r (cell (sheet S m) i)) S)
followed σ m i Clashes w S = job (Impossible i) w S

-- what the limit of a make says at sample i of the sheets as they are
unfoldable pub finding : Setting → Make → ℕ → Sheets → Finding
finding σ m i S = found (cell (sheet S m) i) (σ.number m (values (sheet S m)) i)

-- one evaluation, while the sheet of a make is swept
unfoldable pub evaluated : Setting → Make → Sweep → Sheets → Job
evaluated σ m w S = let i : ℕ = upcoming σ.samples w in followed σ m i (finding σ m i S) w S

-- how many values a finding lowers
abbrev pub lowering : Finding → ℕ
lowering Keeps = 0
lowering (Lowers r) = 1
lowering Clashes = 0
