-- What a memory of C's ends as that is lent as the library's cells, the first of two slices.
use Rattle.std.specs.Prelude.{List, map}
use Rattle.std.specs.Borrow.{LendsBoth, MutBor, Fml, Array}
use Rattle.grade.specs.declared.cell.Cell.{Cell}
use Rattle.grade.specs.declared.class.Class.{Class}
use Rattle.grade.specs.declared.speed.Speed.{Speed}
use Rattle.grade.specs.contracts.cell.Cell.{the_row as cell_row}
use Rattle.grade.specs.contracts.class.Class.{the_row as class_row}
use Rattle.grade.specs.contracts.speed.Speed.{the_row as speed_row}
use Rattle.furqyzet_c.specs.declared.cells.ClassCell.{ClassCell}
use Rattle.furqyzet_c.specs.declared.cells.SpeedCell.{SpeedCell}
use Rattle.furqyzet_c.specs.contracts.cells.ClassCell.{the_row as class_cell_row}
use Rattle.furqyzet_c.specs.contracts.cells.SpeedCell.{the_row as speed_cell_row}
use Rattle.furqyzet_c.specs.Cells.{class_cell_back, speed_cell_back}

abbrev pub LendsClasses : MutBor (List ClassCell) → MutBor (List (Cell Class)) × MutBor (List (Cell Class)) → Fml
LendsClasses s r = LendsBoth (Array class_cell_row 0) (Array (cell_row class_row) 0) (Array (cell_row class_row) 0) s r (λ cells _. map class_cell_back cells)

abbrev pub LendsSpeeds : MutBor (List SpeedCell) → MutBor (List (Cell Speed)) × MutBor (List (Cell Speed)) → Fml
LendsSpeeds s r = LendsBoth (Array speed_cell_row 0) (Array (cell_row speed_row) 0) (Array (cell_row speed_row) 0) s r (λ cells _. map speed_cell_back cells)
