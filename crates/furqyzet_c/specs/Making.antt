-- Making a job of a frame, as C sees it.
use Rattle.std.specs.Prelude.{◌≡◌, ℕ, List, Ok, Err, Result}
use Rattle.grade.specs.declared.cell.Cell.{Cell}
use Rattle.grade.specs.declared.class.Class.{Class}
use Rattle.grade.specs.declared.speed.Speed.{Speed}
use Rattle.job.specs.declared.job.Job.{Job}
use Rattle.planner.specs.declared.fault.MakeFault.{MakeFault}
use Rattle.planner.specs.Asking.{make_refusal}
use Rattle.planner.specs.Making.{MakesFrom}
use Rattle.furqyzet_c.specs.declared.job_words.JobWords.{JobWords}
use Rattle.furqyzet_c.specs.declared.refusal_words.RefusalWords.{RefusalWords}
use Rattle.furqyzet_c.specs.Jobs.{words_of}
use Rattle.furqyzet_c.specs.Refusals.{of_number, refusal_words}

-- the job's words and the refusal
abbrev pub Told : Result Job MakeFault → (w w' : JobWords) → RefusalWords → Type 0
Told (Ok j) w w' x = (w' ≡ words_of j) × (x ≡ of_number 0)
Told (Err f) w w' x = (w' ≡ w) × (x ≡ refusal_words (make_refusal f))

-- what the library promises of r, and r as C sees it
pub record MakesWords (bs : List ℕ) (cs cs' : List (Cell Class)) (ss ss' : List (Cell Speed)) (w w' : JobWords) (x : RefusalWords) : Type 0 where
  pub r : Result Job MakeFault
  pub makes : MakesFrom bs cs cs' ss ss' r
  pub told : Told r w w' x
