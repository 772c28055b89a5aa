-- What rows of torque say of the squared speeds beside their gaps.
use Rattle.std.specs.Prelude.{◌≡◌, ℕ, ◌+◌, ◌-◌, ◌*◌, ◌<◌, List, length, ℤ, pos, ◌+ℤ◌, ◌-ℤ◌, ◌*ℤ◌, ◌≤ℤ◌, ◌<ℤ◌}
use Rattle.grade.specs.Profiles.{Profile, rank}
use Rattle.torque.specs.declared.row.Row.{Row}
use Rattle.torque.specs.Rows.{row_at}

-- ---- one row, of the squared speeds w and w' before and after its gap, at spacing h

-- T, 2h times the torque: d × (w' − w) + 2h × (c × w + g)
abbrev pub moment : ℕ → Row → ℕ → ℕ → ℤ
moment h r w w' = r.d *ℤ (pos w' -ℤ pos w) +ℤ pos (2 * h) *ℤ (r.c *ℤ pos w +ℤ r.g)

-- what T may at least and at most be
abbrev pub lowest : ℕ → Row → ℤ
lowest h r = pos (2 * h) *ℤ r.lo

abbrev pub highest : ℕ → Row → ℤ
highest h r = pos (2 * h) *ℤ r.hi

-- 2h × lo ≤ T ≤ 2h × hi
pub record Holds (h : ℕ) (r : Row) (w w' : ℕ) : Type 0 where
  pub low : lowest h r ≤ℤ moment h r w w'
  pub high : moment h r w w' ≤ℤ highest h r

-- the side of lo ≤ T ≤ hi that bounds w', which T rises with where d is positive and falls with where it is negative
pub record BoundsNext (d lo T hi : ℤ) : Type 0 where
  pub high : pos 0 ≤ℤ d → T ≤ℤ hi
  pub low : d <ℤ pos 0 → lo ≤ℤ T

-- the other side, which bounds w
pub record BoundsLast (d lo T hi : ℤ) : Type 0 where
  pub high : d <ℤ pos 0 → T ≤ℤ hi
  pub low : pos 0 ≤ℤ d → lo ≤ℤ T

-- ---- all rows

-- every row whose two samples are there holds
abbrev pub WithinTorque : ℕ → List Row → Profile → Type 0
WithinTorque h rows p = (k : ℕ) → k < length rows → (row_at rows k).gap + 1 < length p → Holds h (row_at rows k) (rank p (row_at rows k).gap) (rank p ((row_at rows k).gap + 1))

-- the sides of rows that bound sample i hold of g there, the neighbours as they are
pub record WithinTorqueAt (h : ℕ) (rows : List Row) (p : Profile) (i g : ℕ) : Type 0 where
  pub next : (k : ℕ) → k < length rows → (row_at rows k).gap + 1 ≡ i → i < length p
      → BoundsNext (row_at rows k).d (lowest h (row_at rows k)) (moment h (row_at rows k) (rank p (i - 1)) g) (highest h (row_at rows k))
  pub last : (k : ℕ) → k < length rows → (row_at rows k).gap ≡ i → i + 1 < length p
      → BoundsLast (row_at rows k).d (lowest h (row_at rows k)) (moment h (row_at rows k) g (rank p (i + 1))) (highest h (row_at rows k))
