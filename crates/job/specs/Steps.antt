-- One step of a job: an evaluation, if it is at work.
use Rattle.std.specs.Prelude.{ℕ, Bool, true, false}
use Rattle.runs.specs.declared.stage.Make.{Make}
use Rattle.runs.specs.declared.stage.Stage.{Stage}
use Rattle.runs.specs.declared.stage.Stage.TheVariants.{Working, Settled, Impossible}
use Rattle.runs.specs.declared.stage.Sweep.{Sweep}
use Rattle.runs.specs.Settings.{Setting}
use Rattle.runs.specs.Sheets.{Sheets}
use Rattle.runs.specs.Jobs.{Job as Whole, job, upcoming}
use Rattle.runs.specs.Evaluations.{finished, evaluated, finding, lowering}
use Rattle.sweep.specs.declared.sweeping.Outcome.{Outcome}
use Rattle.sweep.specs.declared.sweeping.Outcome.TheVariants.{Stuck, Onward, Ended}

-- what follows from the outcome of a visit to sample i, while the sheet of a make is swept
abbrev pub settles : Setting → Make → ℕ → Outcome → Sweep → Sheets → Whole
settles σ m i Stuck w S = job (Impossible i) w S
settles σ m i (Onward v) w S = job (Working m) v S
settles σ m i Ended w S = finished σ m S

-- and at any stage: nothing, unless the job is at work
abbrev pub follows : Setting → ℕ → Outcome → Stage → Sweep → Sheets → Whole
follows σ i o (Working m) w S = settles σ m i o w S
follows σ i o Settled w S = job Settled w S
follows σ i o (Impossible k) w S = job (Impossible k) w S

-- a step: one evaluation, if the job is at work
abbrev pub stepped : Setting → Stage → Sweep → Sheets → Whole
stepped σ (Working m) w S = evaluated σ m w S
stepped σ Settled w S = job Settled w S
stepped σ (Impossible k) w S = job (Impossible k) w S

-- the lowerings of a step
abbrev pub fallen : Setting → Stage → Sweep → Sheets → ℕ
fallen σ (Working m) w S = lowering (finding σ m (upcoming σ.samples w) S)
fallen σ Settled w S = 0
fallen σ (Impossible k) w S = 0

-- is there work left?
abbrev pub at_work_of : Stage → Bool
at_work_of (Working m) = true
at_work_of Settled = false
at_work_of (Impossible k) = false
