-- Releasing a settled job and writing its setpoint frame, as C sees it.
use Rattle.std.specs.Prelude.{◌≡◌, ℕ, List, Some, None, Ok, Err, Option, Result}
use Rattle.grade.specs.declared.cell.Cell.{Cell}
use Rattle.grade.specs.declared.class.Class.{Class}
use Rattle.grade.specs.declared.speed.Speed.{Speed}
use Rattle.job.specs.declared.job.Job.{Job}
use Rattle.job.specs.Holding.{held}
use Rattle.setpoint.specs.declared.unreleased.Unreleased.{Unreleased}
use Rattle.setpoint.specs.Faults.{question_of}
use Rattle.setpoint.specs.Sending.{Sends}
use Rattle.furqyzet_c.specs.declared.job_words.JobWords.{JobWords}
use Rattle.furqyzet_c.specs.declared.refusal_words.RefusalWords.{RefusalWords}
use Rattle.furqyzet_c.specs.Jobs.{Reads, no_words}
use Rattle.furqyzet_c.specs.Refusals.{of_number}

-- the job's words, what is returned and the refusal
abbrev pub Told : Result ℕ Unreleased → (w w' : JobWords) → ℕ → RefusalWords → Type 0
Told (Ok size) w w' k x = (w' ≡ no_words) × (k ≡ size) × (x ≡ of_number 0)
Told (Err u) w w' k x = (w' ≡ w) × (k ≡ 0) × (x ≡ of_number (question_of u.fault))

abbrev pub SendsOf : Option Job → (w w' : JobWords) → List (Cell Class) → List (Cell Speed) → (out out' : List ℕ) → ℕ → RefusalWords → Type 0
SendsOf None w w' cs ss out out' k x = (w' ≡ w) × (out' ≡ out) × (k ≡ 0) × (x ≡ of_number 255)
SendsOf (Some j) w w' cs ss out out' k x = (r : Result ℕ Unreleased) × Sends (held j cs ss) out out' r × Told r w w' k x

-- of the job whose words they are
pub record SendsWords (w w' : JobWords) (cs : List (Cell Class)) (ss : List (Cell Speed)) (out out' : List ℕ) (k : ℕ) (x : RefusalWords) : Type 0 where
  pub job : Option Job
  pub reads : Reads w job
  pub sends : SendsOf job w w' cs ss out out' k x
