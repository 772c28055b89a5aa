-- What lent memory holds.
use Rattle.std.specs.Prelude.{ℕ}
use Rattle.grade.specs.declared.cell.Cell.{Cell}

-- a cell whose three ranks are 0
abbrev pub lowest_cell : Cell ℕ
lowest_cell = record { value = 0; cap = 0; floor = 0 }
