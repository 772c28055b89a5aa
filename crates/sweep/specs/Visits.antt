-- A visit to a sample of a sheet, whatever its make.
use Rattle.std.specs.Prelude.{◌≡◌, ℕ, List, slice_set}
use Rattle.grade.specs.declared.cell.Cell.{Cell}
use Rattle.grade.specs.Ranks.{ranked_all}
use Rattle.runs.specs.declared.finding.Finding.{Finding}
use Rattle.runs.specs.declared.finding.Finding.TheVariants.{Keeps, Lowers, Clashes}
use Rattle.limit.specs.Numbers.{Number}
use Rattle.runs.specs.Sheets.{Sheet, cell, values, with_value}
use Rattle.runs.specs.Evaluations.{found}

-- a cell after this was found there
abbrev pub fallen : Finding → Cell ℕ → Cell ℕ
fallen Keeps c = c
fallen (Lowers r) c = with_value r c
fallen Clashes c = c

-- the sheet after this was found at sample i
abbrev pub lowered : Finding → ℕ → Sheet → Sheet
lowered Keeps i s = s
lowered (Lowers r) i s = slice_set s i (with_value r (cell s i))
lowered Clashes i s = s

-- what the limit of this number says at sample i of the cells
abbrev pub found_at : {G : Type 0} → (G → ℕ) → Number → List (Cell G) → ℕ → Finding
found_at rank number cells i = found (cell (ranked_all rank cells) i) (number (values (ranked_all rank cells)) i)

-- cells before and after a visit to sample i under the limit of this number, and what it found
pub record Visited {G : Type 0} (rank : G → ℕ) (number : Number) (old new : List (Cell G)) (i : ℕ) (r : Finding) : Type 0 where
  pub finding : r ≡ found_at rank number old i
  pub sheet : ranked_all rank new ≡ lowered r i (ranked_all rank old)
