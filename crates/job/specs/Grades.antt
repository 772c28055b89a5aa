-- Cells from ranks: each rank up to the top is one grade's, so that ranks say which cells a memory holds.
use Rattle.std.specs.Prelude.{ℕ, min, List, map}
use Rattle.std.proofs.Math.Nat.{min-le_right}
use Rattle.grade.specs.declared.cell.Cell.{Cell}
use Rattle.grade.specs.declared.class.Class.{Class}
use Rattle.grade.specs.declared.speed.Speed.{Speed}
use Rattle.grade.specs.Tops.{class_top, speed_top}
use Rattle.runs.specs.Sheets.{Sheet}

-- the class of a rank, the top's for one above it
abbrev pub class_of : ℕ → Class
class_of k = record { value = min k class_top; ok = min-le_right k class_top }

-- the squared speed of a rank, the top's for one above it
abbrev pub speed_of : ℕ → Speed
speed_of k = record { value = min k speed_top; ok = min-le_right k speed_top }

-- the cells that have these ranks
abbrev pub cells_of : {G : Type 0} → (ℕ → G) → Sheet → List (Cell G)
cells_of of s = map (λ (c : Cell ℕ). record { value = of c.value; cap = of c.cap; floor = of c.floor }) s
