-- Grades and cells read as ranks.
use Rattle.std.specs.Prelude.{ℕ, cond, List, map, Some, None, Option, nat_le}
use Rattle.grade.specs.declared.cell.Cell.{Cell}
use Rattle.grade.specs.declared.class.Class.{Class}
use Rattle.grade.specs.declared.speed.Speed.{Speed}
use Rattle.grade.specs.Profiles.{Profile}

abbrev pub class_rank : Class → ℕ
class_rank x = x.value

abbrev pub speed_rank : Speed → ℕ
speed_rank x = x.value

-- the ranks of a cell
abbrev pub ranked : {G : Type 0} → (G → ℕ) → Cell G → Cell ℕ
ranked rank c = record { value = rank c.value; cap = rank c.cap; floor = rank c.floor }

-- the ranks of a sheet's cells
abbrev pub ranked_all : {G : Type 0} → (G → ℕ) → List (Cell G) → List (Cell ℕ)
ranked_all rank cells = map (ranked rank) cells

-- the profile of the values
abbrev pub ranks : {G : Type 0} → (G → ℕ) → List (Cell G) → Profile
ranks rank cells = map (λ c. rank c.value) cells

-- the rank of a grade that may be missing
abbrev pub rank_in : {G : Type 0} → (G → ℕ) → Option G → Option ℕ
rank_in rank None = None
rank_in rank (Some g) = Some (rank g)

-- a number where it is a rank
abbrev pub up_to : ℕ → ℕ → Option ℕ
up_to top number = cond (nat_le number top) (Some number) None
