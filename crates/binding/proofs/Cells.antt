-- The ranks of a cell lie within the top of its make.
use Rattle.std.proofs.Common.{ℕ, zero, suc, ◌≤◌, List, [], ◌∷◌, arith}
use Rattle.grade.specs.declared.cell.Cell.{Cell}
use Rattle.grade.specs.Ranks.{ranked_all}
use Rattle.runs.specs.Sheets.{cell}

-- the ranks of a cell are at most the top
pub record CellWithin (top : ℕ) (c : Cell ℕ) : Type 0 where
  pub value : c.value ≤ top
  pub cap : c.cap ≤ top
  pub floor : c.floor ≤ top

module _ {G : Type 0} (rank : G → ℕ) (top : ℕ) (within : (x : G) → rank x ≤ top) where
  pub cell_within : (cells : List (Cell G)) (i : ℕ) → CellWithin top (cell (ranked_all rank cells) i)
  cell_within [] i = record { value = omega arith; cap = omega arith; floor = omega arith }
  cell_within (c ∷ cs) zero = record { value = within c.value; cap = within c.cap; floor = within c.floor }
  cell_within (c ∷ cs) (suc i) = cell_within cs i
