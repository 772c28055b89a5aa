-- The sheets of a job as ranks: for each make a value, a cap and a floor at each sample.
use Rattle.std.specs.Prelude.{ℕ, List, map, slice_index_or, slice_set}
use Rattle.grade.specs.declared.cell.Cell.{Cell}
use Rattle.runs.specs.declared.stage.Make.{Make}
use Rattle.runs.specs.declared.stage.Make.TheVariants.{Classes, Speeds}
use Rattle.grade.specs.Profiles.{Profile}

abbrev pub Sheet : Type 0
Sheet = List (Cell ℕ)

-- read past the end
abbrev pub blank : Cell ℕ
blank = record { value = 0; cap = 0; floor = 0 }

-- the cell of a sample
abbrev pub cell : Sheet → ℕ → Cell ℕ
cell s i = slice_index_or s i blank

-- the profile that a sheet holds
abbrev pub values : Sheet → Profile
values s = map (λ (c : Cell ℕ). c.value) s

pub record Sheets : Type 0 where
  pub classes : Sheet
  pub speeds : Sheet

-- the sheet of a make
abbrev pub sheet : Sheets → Make → Sheet
sheet S Classes = S.classes
sheet S Speeds = S.speeds

-- the sheets with another cell at a sample of one make
abbrev pub put : Make → ℕ → Cell ℕ → Sheets → Sheets
put Classes i c S = record { classes = slice_set S.classes i c; speeds = S.speeds }
put Speeds i c S = record { classes = S.classes; speeds = slice_set S.speeds i c }

-- a cell with another value, another cap, another floor
abbrev pub with_value : ℕ → Cell ℕ → Cell ℕ
with_value v c = record { value = v; cap = c.cap; floor = c.floor }

abbrev pub with_cap : ℕ → Cell ℕ → Cell ℕ
with_cap v c = record { value = c.value; cap = v; floor = c.floor }

abbrev pub with_floor : ℕ → Cell ℕ → Cell ℕ
with_floor v c = record { value = c.value; cap = c.cap; floor = v }
