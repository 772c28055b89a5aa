-- Products of a row's numbers fit 64 bits.
use Rattle.std.proofs.Common.{◌≡◌, ℕ, ◌*◌, ◌^◌, ◌≤◌, ℤ, pos, negsuc, ◌*ℤ◌, neg_ℤ, nat_abs, refl, arith, w64, SFits}
use Rattle.std.proofs.lemmas.Nat.{mul-le}
use Rattle.std.proofs.lemmas.Int.{ints, to_z-of_z}

size-neg : (z : ℤ) → nat_abs (neg_ℤ z) ≡ nat_abs z
size-neg z = omega (arith, ints)

size-mul : (a : ℕ) (n : ℤ) → nat_abs (pos a *ℤ n) ≡ a * nat_abs n
size-mul a (pos n) = refl
size-mul a (negsuc n) = size-neg (pos (a * nat_abs (negsuc n)))

pub scaled_small : (a : ℕ) (n : ℤ) → a ≤ 2 ^ 17 → nat_abs n ≤ 2 ^ 32 → nat_abs (pos a *ℤ n) ≤ 2 ^ 49
scaled_small a n h k = omega (arith, size-mul a n, mul-le a (nat_abs n) (2 ^ 17) (2 ^ 32) h k)

pub fits_small : (z : ℤ) → nat_abs z ≤ 2 ^ 49 → SFits w64 z
fits_small z h = omega (arith, ints)

-- signed numbers, and what is read from their bits
pub ruleset signed = (ints, to_z-of_z)
