-- The whole part of a square root.
use Rattle.std.specs.Prelude.{ℕ, zero, suc, ◌*◌, ◌≤◌, cond, nat_le}

-- s is the greatest number with s × s ≤ w
pub record Root (w s : ℕ) : Type 0 where
  pub fits : s * s ≤ w
  pub greatest : (u : ℕ) → u * u ≤ w → u ≤ s

-- the next number where its square is at most w, else the number itself
abbrev pub stepped : (w s : ℕ) → ℕ
stepped w s = cond (nat_le (suc s * suc s) w) (suc s) s

-- that greatest number
unfoldable pub root : ℕ → ℕ
root zero = 0
root (suc w) = stepped (suc w) (root w)
