-- What a cap is: the greatest whole number up to 2147483647 that an inequality over whole numbers lets through.
use Rattle.std.specs.Prelude.{ℕ, ◌*◌, ◌^◌, ◌≤◌}
use Rattle.caps.specs.Floats.{significand, shift}

-- w ≤ v × v × 65536, for the top speed v of the pattern b
pub record SpeedCap (b w : ℕ) : Type 0 where
  pub within : w ≤ 2147483647
  pub fits : w * 2 ^ 282 ≤ significand b * significand b * 2 ^ (2 * shift b)
  pub greatest : (u : ℕ) → u ≤ 2147483647 → u * 2 ^ 282 ≤ significand b * significand b * 2 ^ (2 * shift b) → u ≤ w

-- |k| × w ≤ a, for a curvature k of the size s × 2 ^ x × 2 ^ −149: where s is 0 there is no cap but the greatest number
pub record BendCap (s x a w : ℕ) : Type 0 where
  pub within : w ≤ 2147483647
  pub fits : s * 2 ^ x * w ≤ a * 2 ^ 149
  pub greatest : (u : ℕ) → u ≤ 2147483647 → s * 2 ^ x * u ≤ a * 2 ^ 149 → u ≤ w
