-- What a call does to the library's cells under a frame's bytes it does to C's under equal bytes.
use Rattle.std.proofs.Common.{◌≡◌, ℕ, List, map, subst}
use Rattle.grade.specs.declared.cell.Cell.{Cell}
use Rattle.grade.specs.declared.class.Class.{Class}
use Rattle.grade.specs.declared.speed.Speed.{Speed}
use Rattle.frame.specs.Views.{path_of}
use Rattle.sources.specs.Sources.{class_number, speed_number}
use Rattle.runs.specs.declared.call.Call.{Call}
use Rattle.furqyzet_c.specs.declared.answer_words.AnswerWords.{AnswerWords}
use Rattle.furqyzet_c.specs.declared.cells.ClassCell.{ClassCell}
use Rattle.furqyzet_c.specs.declared.cells.SpeedCell.{SpeedCell}
use Rattle.furqyzet_c.specs.declared.job_words.JobWords.{JobWords}
use Rattle.furqyzet_c.specs.Cells.{class_cell_back, speed_cell_back, class_cells_of, speed_cells_of}
use Rattle.furqyzet_c.specs.Performing.{ActsWords, memory}
use Rattle.furqyzet_c.proofs.Lent.{holds_of_lent}

module _ (call : Call) (w w' : JobWords) (x : AnswerWords) where
  -- the call, under the limits of a frame's bytes
  abbrev pub Acted : List ℕ → (cs cs' : List (Cell Class)) (ss ss' : List (Cell Speed)) → Type 0
  Acted bs cs cs' ss ss' = ActsWords (class_number (path_of bs)) (speed_number (path_of bs)) call (memory w cs ss) (memory w' cs' ss') x

  pub acts_of_lent : (bs read : List ℕ) (classes : List ClassCell) (speeds : List SpeedCell) (cs cs' : List (Cell Class)) (ss ss' : List (Cell Speed))
      → read ≡ bs → cs ≡ class_cells_of classes → ss ≡ speed_cells_of speeds → Acted read cs cs' ss ss'
      → Acted bs (class_cells_of classes) (class_cells_of (map class_cell_back cs')) (speed_cells_of speeds) (speed_cells_of (map speed_cell_back ss'))
  acts_of_lent bs read classes speeds cs cs' ss ss' read-is cs-is ss-is acts =
      holds_of_lent (Acted bs) classes speeds cs cs' ss ss' cs-is ss-is (subst (λ (l : List ℕ). Acted l cs cs' ss ss') read-is acts)
