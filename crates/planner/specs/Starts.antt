-- The caps and floors that a path's records give.
use Rattle.std.specs.Prelude.{◌≡◌, ℕ, zero, suc, ◌*◌, ◌^◌, ◌≤◌, min, Bool, cond, List, map, length, take, drop, pos, nat_le, slice_index_or}
use Rattle.grade.specs.declared.cell.Cell.{Cell}
use Rattle.grade.specs.Profiles.{Profile}
use Rattle.grade.specs.Ranks.{ranked_all}
use Rattle.grade.specs.Tops.{class_top, speed_top}
use Rattle.caps.specs.Floats.{bits_of, significand, shift}
use Rattle.record.specs.declared.sample.Sample.{Sample}
use Rattle.clause.specs.declared.clause.CapClause.{CapClause}
use Rattle.clause.specs.declared.clause.CapClause.TheVariants.{Free, Straight, Bend, Fixed}
use Rattle.frame.specs.Paths.{Path}
use Rattle.runs.specs.declared.stage.Make.{Make}
use Rattle.runs.specs.declared.stage.Make.TheVariants.{Classes, Speeds}
use Rattle.runs.specs.Making.{Start}

-- ---- the cap that a clause gives, as a number

-- the greatest number up to n that a test lets through, 0 where it lets none through
unfoldable pub greatest : (ℕ → Bool) → ℕ → ℕ
greatest test zero = 0
greatest test (suc n) = cond (test (suc n)) (suc n) (greatest test n)

-- of the top speed v of the pattern b: the greatest w with w ≤ v × v × 65536
abbrev pub straight_cap : ℕ → ℕ
straight_cap b = greatest (λ w. nat_le (w * 2 ^ 282) (significand b * significand b * 2 ^ (2 * shift b))) speed_top

-- of the curvature k of the pattern b at the lateral number a: the greatest w with |k| × w ≤ a
abbrev pub bend_cap_of : ℕ → ℕ → ℕ
bend_cap_of b a = greatest (λ w. nat_le (significand b * 2 ^ shift b * w) (a * 2 ^ 149)) speed_top

abbrev pub clause_cap : ℕ → CapClause → ℕ
clause_cap a Free = speed_top
clause_cap a (Straight v) = straight_cap (bits_of v)
clause_cap a (Bend b) = min (straight_cap (bits_of b.top_speed)) (bend_cap_of (bits_of b.curvature) a)
clause_cap a (Fixed n) = n

-- ---- the sheets that a path gives

-- a cell that begins: its value at the cap
abbrev pub beginning : (cap floor : ℕ) → Cell ℕ
beginning c f = record { value = c; cap = c; floor = f }

abbrev pub no_cell : Cell ℕ
no_cell = beginning 0 0

abbrev pub no_sample_of : Sample
no_sample_of = record { clause = Free; class_cap = 0; class_floor = 0; speed_floor = 0; q = pos 0 }

abbrev pub class_cell : Sample → Cell ℕ
class_cell s = beginning s.class_cap s.class_floor

abbrev pub speed_cell : ℕ → Sample → Cell ℕ
speed_cell a s = beginning (clause_cap a s.clause) s.speed_floor

abbrev pub class_sheet_of : Path → List (Cell ℕ)
class_sheet_of p = map class_cell p.samples

abbrev pub speed_sheet_of : Path → List (Cell ℕ)
speed_sheet_of p = map (speed_cell p.header.lateral) p.samples

-- the cap on a sample's squared speed
abbrev pub cap_of : Path → ℕ → ℕ
cap_of p i = clause_cap p.header.lateral (slice_index_or p.samples i no_sample_of).clause

-- the bounds of a sample are ranks
pub record SampleWithin (s : Sample) : Type 0 where
  pub class_cap_fits : s.class_cap ≤ class_top
  pub class_floor_fits : s.class_floor ≤ class_top
  pub speed_floor_fits : s.speed_floor ≤ speed_top
  pub fixed : (n : ℕ) → s.clause ≡ Fixed n → n ≤ speed_top

-- memory filled from a sheet: its first cells are the sheet's, the rest as it was
pub record Filled {G : Type 0} (rank : G → ℕ) (sheet : List (Cell ℕ)) (cells cells' : List (Cell G)) : Type 0 where
  pub front : ranked_all rank (take (length sheet) cells') ≡ sheet
  pub past : drop (length sheet) cells' ≡ drop (length sheet) cells
  pub long : length cells' ≡ length cells

-- ---- the start that a path gives

abbrev pub caps_from : Path → Make → Profile
caps_from p Classes = map (λ (s : Sample). s.class_cap) p.samples
caps_from p Speeds = map (λ (s : Sample). clause_cap p.header.lateral s.clause) p.samples

abbrev pub floors_from : Path → Make → Profile
floors_from p Classes = map (λ (s : Sample). s.class_floor) p.samples
floors_from p Speeds = map (λ (s : Sample). s.speed_floor) p.samples

abbrev pub start_from : Path → Start
start_from p = record { caps = caps_from p; floors = floors_from p }
