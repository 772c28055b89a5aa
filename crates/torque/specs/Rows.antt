-- Rows of torque, at spacing h, and which rows there may be.
use Rattle.std.specs.Prelude.{◌≡◌, ℕ, ◌*◌, ◌<◌, ◌≤◌, List, length, ℤ, pos, ◌-ℤ◌, ◌*ℤ◌, int_lt, slice_index_or, unsigned_abs}
use Rattle.torque.specs.declared.row.Row.{Row}

abbrev pub no_row : Row
no_row = record { gap = 0; d = pos 0; c = pos 0; g = pos 0; lo = pos 0; hi = pos 0 }

abbrev pub row_at : List Row → ℕ → Row
row_at rows k = slice_index_or rows k no_row

-- ---- the products of a row's numbers with the spacing

-- d − 2hc: what w weighs in T, as d is what w' weighs
abbrev pub weight : ℕ → Row → ℤ
weight h r = r.d -ℤ pos (2 * h) *ℤ r.c

-- 2h × (hi − g) and 2h × (g − lo): the room that g leaves above and below
abbrev pub room_above_of : ℕ → Row → ℤ
room_above_of h r = pos (2 * h) *ℤ (r.hi -ℤ r.g)

abbrev pub room_below_of : ℕ → Row → ℤ
room_below_of h r = pos (2 * h) *ℤ (r.g -ℤ r.lo)

-- ---- which rows there may be

-- the greatest size of a row's numbers
abbrev pub row_size : ℕ
row_size = 16777216

-- a row whose numbers are small, whose d and d − 2hc are not 0 and have one sign
pub record Sound (h : ℕ) (r : Row) : Type 0 where
  pub d_small : unsigned_abs r.d ≤ row_size
  pub c_small : unsigned_abs r.c ≤ row_size
  pub g_small : unsigned_abs r.g ≤ row_size
  pub lo_small : unsigned_abs r.lo ≤ row_size
  pub hi_small : unsigned_abs r.hi ≤ row_size
  pub weight_small : unsigned_abs (weight h r) ≤ row_size
  pub d_some : 0 < unsigned_abs r.d
  pub weight_some : 0 < unsigned_abs (weight h r)
  pub alike : int_lt r.d (pos 0) ≡ int_lt (weight h r) (pos 0)

-- sound rows, none of whose gaps lies below that of the row before
pub record SoundRows (h : ℕ) (rows : List Row) : Type 0 where
  pub sound : (k : ℕ) → k < length rows → Sound h (row_at rows k)
  pub rising : (j k : ℕ) → j ≤ k → k < length rows → (row_at rows j).gap ≤ (row_at rows k).gap
