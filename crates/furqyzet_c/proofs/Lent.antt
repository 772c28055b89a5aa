-- Cells that were C's and are the library's are C's again.
use Rattle.std.proofs.Common.{◌≡◌, List, [], ◌∷◌, map, refl, sym, ap, subst}
use Rattle.grade.specs.declared.cell.Cell.{Cell}
use Rattle.grade.specs.declared.class.Class.{Class}
use Rattle.grade.specs.declared.speed.Speed.{Speed}
use Rattle.furqyzet_c.specs.declared.cells.ClassCell.{ClassCell}
use Rattle.furqyzet_c.specs.declared.cells.SpeedCell.{SpeedCell}
use Rattle.furqyzet_c.specs.Cells.{class_cell, class_cell_back, speed_cell, speed_cell_back, class_cells_of, speed_cells_of}

pub classes_again : (cells : List (Cell Class)) → map class_cell (map class_cell_back cells) ≡ cells
classes_again [] = refl
classes_again (c ∷ cs) = ap (λ l. c ∷ l) (classes_again cs)

pub speeds_again : (cells : List (Cell Speed)) → map speed_cell (map speed_cell_back cells) ≡ cells
speeds_again [] = refl
speeds_again (c ∷ cs) = ap (λ l. c ∷ l) (speeds_again cs)

-- what holds of the library's cells before and after holds of C's
module _ (P : (cs cs' : List (Cell Class)) (ss ss' : List (Cell Speed)) → Type 0) (classes : List ClassCell) (speeds : List SpeedCell) where
  pub holds_of_lent : (cs cs' : List (Cell Class)) (ss ss' : List (Cell Speed)) → cs ≡ class_cells_of classes → ss ≡ speed_cells_of speeds
      → P cs cs' ss ss' → P (class_cells_of classes) (class_cells_of (map class_cell_back cs')) (speed_cells_of speeds) (speed_cells_of (map speed_cell_back ss'))
  holds_of_lent cs cs' ss ss' cs-is ss-is p =
      subst (λ l. P (class_cells_of classes) l (speed_cells_of speeds) (speed_cells_of (map speed_cell_back ss'))) (sym (classes_again cs'))
      (subst (λ l. P (class_cells_of classes) cs' (speed_cells_of speeds) l) (sym (speeds_again ss'))
      (subst (λ l. P l cs' (speed_cells_of speeds) ss') cs-is (subst (λ l. P cs cs' l ss') ss-is p)))
