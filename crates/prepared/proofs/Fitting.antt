-- The two inequalities of a sound row at a spacing of 16 bits fit 64 bits.
use Rattle.std.proofs.Common.{◌≡◌, ℕ, ◌*◌, ◌^◌, ◌<◌, ◌≤◌, Bool, true, false, cond, List, length, ℤ, pos, ◌-ℤ◌, int_lt, unsigned_abs, subst, sym, arith}
use Rattle.std.proofs.lemmas.Int.{ints}
use Rattle.torque.specs.declared.row.Row.{Row}
use Rattle.torque.specs.Rows.{Sound, row_at, room_above_of, room_below_of}
use Rattle.torque.proofs.Widths.{scaled_small}
use Rattle.motion.specs.declared.triple.Triple.{Triple}
use Rattle.motion.specs.Torques.{Fit, on_left_of, on_right_of}
use Rattle.frame.specs.Paths.{accepted}
use Rattle.frame.specs.Views.{path_of}
use Rattle.sources.specs.Sources.{rows_of}
use Rattle.sources.specs.Soundness.{rows_sound}

either : (b : Bool) (x y : ℤ) → unsigned_abs x ≤ 2 ^ 49 → unsigned_abs y ≤ 2 ^ 49 → unsigned_abs (cond b x y) ≤ 2 ^ 49
either true x y k l = k
either false x y k l = l

module _ (h : ℕ) (r : Row) (m : h < 2 ^ 16) (s : Sound h r) where
  above : unsigned_abs (room_above_of h r) ≤ 2 ^ 49
  above = scaled_small (2 * h) (r.hi -ℤ r.g) (omega arith) (let a = s.hi_small in let b = s.g_small in omega (arith, ints))

  below : unsigned_abs (room_below_of h r) ≤ 2 ^ 49
  below = scaled_small (2 * h) (r.g -ℤ r.lo) (omega arith) (let a = s.lo_small in let b = s.g_small in omega (arith, ints))

  left : Fit (on_left_of h r)
  left = record { own_some = s.weight_some; near_small = s.d_small; constant_small = either (int_lt r.d (pos 0)) (room_above_of h r) (room_below_of h r) above below }

  right : Fit (on_right_of h r)
  right = record { own_some = s.d_some; near_small = s.weight_small; constant_small = either (int_lt r.d (pos 0)) (room_below_of h r) (room_above_of h r) below above }

module _ (bs : List ℕ) (e : accepted bs ≡ true) (m : (path_of bs).header.spacing < 2 ^ 16) (k : ℕ) (l : k < length (rows_of (path_of bs))) (t : Triple) where
  pub left_fits : t ≡ on_left_of (path_of bs).header.spacing (row_at (rows_of (path_of bs)) k) → Fit t
  left_fits is = subst Fit (sym is) (left (path_of bs).header.spacing (row_at (rows_of (path_of bs)) k) m ((rows_sound bs e).sound k l))

  pub right_fits : t ≡ on_right_of (path_of bs).header.spacing (row_at (rows_of (path_of bs)) k) → Fit t
  right_fits is = subst Fit (sym is) (right (path_of bs).header.spacing (row_at (rows_of (path_of bs)) k) m ((rows_sound bs e).sound k l))
