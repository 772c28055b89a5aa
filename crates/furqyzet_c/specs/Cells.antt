-- A cell of C's memory as the library's, and back.
use Rattle.std.specs.Prelude.{List, map}
use Rattle.grade.specs.declared.cell.Cell.{Cell}
use Rattle.grade.specs.declared.class.Class.{Class}
use Rattle.grade.specs.declared.speed.Speed.{Speed}
use Rattle.furqyzet_c.specs.declared.cells.ClassCell.{ClassCell}
use Rattle.furqyzet_c.specs.declared.cells.SpeedCell.{SpeedCell}

abbrev pub class_cell : ClassCell → Cell Class
class_cell c = record { value = c.value; cap = c.cap; floor = c.floor }

abbrev pub class_cell_back : Cell Class → ClassCell
class_cell_back c = record { value = c.value; cap = c.cap; floor = c.floor }

abbrev pub speed_cell : SpeedCell → Cell Speed
speed_cell c = record { value = c.value; cap = c.cap; floor = c.floor }

abbrev pub speed_cell_back : Cell Speed → SpeedCell
speed_cell_back c = record { value = c.value; cap = c.cap; floor = c.floor }

-- the cells of a memory
abbrev pub class_cells_of : List ClassCell → List (Cell Class)
class_cells_of cells = map class_cell cells

abbrev pub speed_cells_of : List SpeedCell → List (Cell Speed)
speed_cells_of cells = map speed_cell cells
