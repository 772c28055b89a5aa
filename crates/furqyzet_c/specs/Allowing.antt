-- The allowance that suffices, as C sees it.
use Rattle.std.specs.Prelude.{◌≡◌, ℕ, List, Some, None, Ok, Err, Option, Result}
use Rattle.grade.specs.declared.cell.Cell.{Cell}
use Rattle.grade.specs.declared.class.Class.{Class}
use Rattle.grade.specs.declared.speed.Speed.{Speed}
use Rattle.runs.specs.declared.call.Fault.{Fault}
use Rattle.job.specs.declared.job.Job.{Job}
use Rattle.job.specs.Allowing.{Allowed}
use Rattle.job.specs.Holding.{held}
use Rattle.furqyzet_c.specs.declared.job_words.JobWords.{JobWords}
use Rattle.furqyzet_c.specs.Jobs.{Reads}

-- 0 where there is none
abbrev pub Told : Result ℕ Fault → ℕ → Type 0
Told (Ok allowance) k = k ≡ allowance
Told (Err f) k = k ≡ 0

abbrev pub AllowsOf : Option Job → List (Cell Class) → List (Cell Speed) → ℕ → Type 0
AllowsOf None cs ss k = k ≡ 0
AllowsOf (Some j) cs ss k = (r : Result ℕ Fault) × Allowed (held j cs ss) r × Told r k

-- of the job whose words they are
pub record AllowsWords (w : JobWords) (cs : List (Cell Class)) (ss : List (Cell Speed)) (k : ℕ) : Type 0 where
  pub job : Option Job
  pub reads : Reads w job
  pub allows : AllowsOf job cs ss k
