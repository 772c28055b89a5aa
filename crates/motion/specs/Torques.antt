-- What rows of torque allow: each row is two inequalities, and each of those bounds the sample on its left side.
use Rattle.std.specs.Prelude.{ℕ, ◌+◌, ◌-◌, ◌*◌, ◌^◌, ◌≤◌, cond, ◌&&◌, List, [], ◌∷◌, length, ℤ, pos, ◌+ℤ◌, ◌==◌, int_lt, nat_lt, unsigned_abs}
use Rattle.std.specs.Int.{int_min}
use Rattle.grade.specs.Profiles.{Profile, rank}
use Rattle.grade.specs.Tops.{speed_top}
use Rattle.torque.specs.declared.row.Row.{Row}
use Rattle.motion.specs.declared.triple.Triple.{Triple}
use Rattle.motion.specs.Floors.{floored}
use Rattle.torque.specs.Rows.{weight, room_above_of, room_below_of, row_size, row_at}

-- the inequality that bounds the sample after the gap
abbrev pub on_right_of : ℕ → Row → Triple
on_right_of h r = record { own = unsigned_abs r.d; near = unsigned_abs (weight h r); constant = cond (int_lt r.d (pos 0)) (room_below_of h r) (room_above_of h r) }

-- the inequality that bounds the sample before the gap
abbrev pub on_left_of : ℕ → Row → Triple
on_left_of h r = record { own = unsigned_abs (weight h r); near = unsigned_abs r.d; constant = cond (int_lt r.d (pos 0)) (room_above_of h r) (room_below_of h r) }

-- a triple whose sums fit 64 bits: near × w is below 2^55 at every squared speed w, and the constant far smaller
pub record Fit (t : Triple) : Type 0 where
  pub own_some : 1 ≤ t.own
  pub near_small : t.near ≤ row_size
  pub constant_small : unsigned_abs t.constant ≤ 2 ^ 49

-- what an inequality allows beside a neighbour at w
abbrev pub bound : Triple → ℕ → ℤ
bound t w = floored t.own (pos (t.near * w) +ℤ t.constant)

-- what a row allows at sample i, where that lies after its gap, or before it; a missing neighbour bounds nothing
abbrev pub allows_after : ℕ → Profile → ℕ → Row → ℤ
allows_after h p i r = cond (r.gap + 1 == i && nat_lt i (length p)) (bound (on_right_of h r) (rank p (i - 1))) (pos speed_top)

abbrev pub allows_before : ℕ → Profile → ℕ → Row → ℤ
allows_before h p i r = cond (r.gap == i && nat_lt (i + 1) (length p)) (bound (on_left_of h r) (rank p (i + 1))) (pos speed_top)

abbrev pub allows : ℕ → Profile → ℕ → Row → ℤ
allows h p i r = int_min (allows_after h p i r) (allows_before h p i r)

-- what row k of the rows allows; a missing row bounds nothing
abbrev pub row_number : ℕ → List Row → ℕ → Profile → ℕ → ℤ
row_number h rows k p i = cond (nat_lt k (length rows)) (allows h p i (row_at rows k)) (pos speed_top)

-- the least over all rows
abbrev pub least : (Row → ℤ) → List Row → ℤ
least f [] = pos speed_top
least f (r ∷ rows) = int_min (f r) (least f rows)

abbrev pub torque : ℕ → List Row → Profile → ℕ → ℤ
torque h rows p i = least (allows h p i) rows
