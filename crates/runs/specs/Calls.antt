-- Each call on a job: the questions that it is asked first, what it does where none refuses it, and its answer.
use Rattle.std.specs.Prelude.{ℕ, zero, suc, ◌+◌, min, max, Bool, true, false, cond, Ok, Err, Result, nat_le, nat_lt}
use Rattle.runs.specs.declared.call.Call.{Call}
use Rattle.runs.specs.declared.call.Call.TheVariants.{Advance, Cut, Lift, Look}
use Rattle.runs.specs.declared.call.Fault.{Fault}
use Rattle.runs.specs.declared.call.Fault.TheVariants.{NoSample, AboveTop, JobImpossible}
use Rattle.runs.specs.declared.reply.Progress.{Progress}
use Rattle.runs.specs.declared.reply.Reply.{Reply}
use Rattle.runs.specs.declared.reply.Reply.TheVariants.{Advanced, Done, Seen}
use Rattle.runs.specs.declared.reply.Sight.{Sight}
use Rattle.grade.specs.declared.cell.Cell.{Cell}
use Rattle.runs.specs.declared.stage.Make.{Make}
use Rattle.runs.specs.declared.stage.Make.TheVariants.{Classes, Speeds}
use Rattle.runs.specs.declared.stage.Stage.{Stage}
use Rattle.runs.specs.declared.stage.Stage.TheVariants.{Working, Settled, Impossible}
use Rattle.runs.specs.declared.stage.Sweep.{Sweep}
use Rattle.runs.specs.Answers.{Answer}
use Rattle.runs.specs.Settings.{Setting}
use Rattle.runs.specs.Sheets.{Sheets, cell, sheet, put, with_value, with_cap, with_floor}
use Rattle.runs.specs.Jobs.{fresh, marking, upcoming, Job, job}
use Rattle.runs.specs.Evaluations.{evaluated, finding, lowering}

-- ---- questions: asked in order, until one is answered no

-- what the questions come to: a yes to each, or the fault of the first no
abbrev pub Verdict : Type 0
Verdict = Result (Unit {0}) Fault

abbrev pub granted : Verdict
granted = Ok tt

abbrev pub refused : Fault → Verdict
refused f = Err f

-- a question, the fault that a no means, and the questions after it
abbrev pub ask : Bool → Fault → Verdict → Verdict
ask true f rest = rest
ask false f rest = refused f

-- can the job still be worked on?
abbrev pub is_possible : Stage → Bool
is_possible (Working m) = true
is_possible Settled = true
is_possible (Impossible i) = false

-- a cut's or a lift's: is the sample on the path, is the value a rank of the make, can the job be worked on?
abbrev pub questions : Setting → Make → (sample value : ℕ) → Stage → Verdict
questions σ m i v t = ask (nat_lt i σ.samples) NoSample (ask (nat_le v (σ.top m)) AboveTop (ask (is_possible t) JobImpossible granted))

-- whether a call is done, by the job's stage
abbrev pub verdict : Setting → Call → Stage → Verdict
verdict σ (Advance k) t = ask (is_possible t) JobImpossible granted
verdict σ (Cut m i v) t = questions σ m i v t
verdict σ (Lift m i v) t = questions σ m i v t
verdict σ (Look i) t = ask (nat_lt i σ.samples) NoSample granted

-- ---- advance

-- how far an advance came: the job, the evaluations made, and how many of them lowered a value
pub record Course : Type 0 where
  pub job : Job
  pub evaluations : ℕ
  pub lowerings : ℕ

-- nothing evaluated
abbrev pub idle : Job → Course
idle j = record { job = j; evaluations = 0; lowerings = 0 }

-- one evaluation, which lowered k values, before the rest
abbrev pub counted : ℕ → Course → Course
counted k p = record { job = p.job; evaluations = suc p.evaluations; lowerings = k + p.lowerings }

-- evaluations, one after another, until the allowance is used or there is no more work
unfoldable pub advanced : Setting → (allowance : ℕ) → Job → Course
advanced σ zero j = idle j
advanced σ (suc k) j = elim j.stage [
  | Working m ↦ counted (lowering (finding σ m (upcoming σ.samples j.sweep) j.sheets)) (advanced σ k (evaluated σ m j.sweep j.sheets))
  | Settled ↦ idle j
  | Impossible i ↦ idle j
]

-- ---- cuts and lifts

-- the work that a cut leaves to do where it lowered a value: what that sheet's sweep has passed is no longer sure, so the
-- sweep is marked; where the sheet was done with, it is swept anew; speeds that wait for their classes need nothing
abbrev pub reopened : Make → Stage → Sweep → Sheets → Job
reopened Classes (Working Classes) w S = job (Working Classes) (marking w) S
reopened Classes (Working Speeds) w S = job (Working Classes) fresh S
reopened Classes Settled w S = job (Working Classes) fresh S
reopened Classes (Impossible i) w S = job (Impossible i) w S
reopened Speeds (Working Classes) w S = job (Working Classes) w S
reopened Speeds (Working Speeds) w S = job (Working Speeds) (marking w) S
reopened Speeds Settled w S = job (Working Speeds) fresh S
reopened Speeds (Impossible i) w S = job (Impossible i) w S

-- a cut to v: the cap is at most v from now on; a value above v falls with it, or cannot, where v is below the floor
unfoldable pub cut : Make → (sample value : ℕ) → Job → Job
cut m i v j =
    let old : Cell ℕ = cell (sheet j.sheets m) i in
    let new : Cell ℕ = with_cap (min old.cap v) old in
    cond (nat_lt v old.value)
    (cond (nat_lt v old.floor) (job (Impossible i) j.sweep (put m i new j.sheets))
    (reopened m j.stage j.sweep (put m i (with_value v new) j.sheets)))
    (job j.stage j.sweep (put m i new j.sheets))

-- a lift to v: the floor is at least v from now on; a value below it can never rise, so the job has failed there
unfoldable pub lifted : Make → (sample value : ℕ) → Job → Job
lifted m i v j =
    let old : Cell ℕ = cell (sheet j.sheets m) i in
    let S : Sheets = put m i (with_floor (max old.floor v) old) j.sheets in
    cond (nat_lt old.value (max old.floor v)) (job (Impossible i) j.sweep S) (job j.stage j.sweep S)

-- ---- a call

-- the job after a call that no question refuses
unfoldable pub acted : Setting → Call → Job → Job
acted σ (Advance k) j = (advanced σ k j).job
acted σ (Cut m i v) j = cut m i v j
acted σ (Lift m i v) j = lifted m i v j
acted σ (Look i) j = j

-- how far an advance came
abbrev pub progress : Course → Progress
progress p = record { stage = p.job.stage; evaluations = p.evaluations; lowerings = p.lowerings }

-- what a look shows of a sample
abbrev pub sight : Job → (sample : ℕ) → Sight
sight j i = record { stage = j.stage; class = (cell j.sheets.classes i).value; speed = (cell j.sheets.speeds i).value }

-- and its reply
unfoldable pub replied : Setting → Call → Job → Reply
replied σ (Advance k) j = Advanced (progress (advanced σ k j))
replied σ (Cut m i v) j = Done
replied σ (Lift m i v) j = Done
replied σ (Look i) j = Seen (sight j i)

-- the job after a call: a refused one leaves it as it is
unfoldable pub called : Setting → Call → Job → Job
called σ c j = elim (verdict σ c j.stage) [ Ok _ ↦ acted σ c j | Err f ↦ j ]

-- the answer to a call
unfoldable pub answered : Setting → Call → Job → Answer
answered σ c j = elim (verdict σ c j.stage) [ Ok _ ↦ Ok (replied σ c j) | Err f ↦ Err f ]
