-- A number as far as the floor, found by a product where the number stays.
use Rattle.std.proofs.Common.{◌≡◌, ℕ, ◌-◌, ◌*◌, ◌^◌, ◌/◌, ◌<◌, ◌≤◌, ℤ, pos, negsuc, ◌*ℤ◌, ◌≤ℤ◌, int_le, int_lt, true, false, neg_ℤ, nat_abs, refl, arith, w64, SFits}
use Rattle.std.proofs.lemmas.Nat.{mul-le}
use Rattle.std.specs.Int.{int_min}
use Rattle.std.proofs.lemmas.Int.{ints, clamps}
use Rattle.grade.specs.Tops.{speed_top}
use Rattle.limit.specs.Numbers.{least_asked, AsFar}
use Rattle.motion.specs.Floors.{floored}
use Rattle.motion.specs.FloorsLemmas.{floored_low, under_floored}

module _ (f most : ℕ) (n : ℕ) (some : 0 < f) (top : most ≤ speed_top) where
  -- the product fits
  stays : f * most ≤ n → pos most ≡ int_min (pos most) (floored f (pos n))
  stays h = let a = (under_floored f (pos n) most some top).1 (omega (arith, ints)) in omega (arith, ints, clamps)

  -- it does not: the quotient is below the grade
  lower_quotient : n < f * most → n / f < most
  lower_quotient h =
      let c : (most ≤ n / f → ⊥) = λ l. let a = (under_floored f (pos n) most some top).0 (omega (arith, ints, clamps)) in omega (arith, ints) in
      omega arith

pub le_true : (a b : ℤ) → int_le a b ≡ true → a ≤ℤ b
le_true a b h = omega (arith, ints)

pub le_false : (a b : ℤ) → int_le a b ≡ false → (a ≤ℤ b → ⊥)
le_false a b h l = omega (arith, ints)

size_neg : (z : ℤ) → nat_abs (neg_ℤ z) ≡ nat_abs z
size_neg z = omega (arith, ints)

size_product : (f : ℕ) (z : ℤ) → nat_abs (pos f *ℤ z) ≡ f * nat_abs z
size_product f (pos n) = refl
size_product f (negsuc n) = size_neg (pos (f * nat_abs (negsuc n)))

-- the largest factor and number make the largest product
fits_to : (f : ℕ) (z : ℤ) → f < 2 ^ 32 → nat_abs z ≤ 2 ^ 31 → nat_abs (pos f *ℤ z) ≤ (2 ^ 32 - 1) * 2 ^ 31
fits_to f z small size = omega (arith, size_product f z, mul-le f (nat_abs z) (2 ^ 32 - 1) (2 ^ 31) (omega arith) size)

-- the product of a factor and a number that a limit is asked about fits 64 bits
pub product_fits : (f : ℕ) (z : ℤ) → f < 2 ^ 32 → least_asked ≤ℤ z → z ≤ℤ pos speed_top → SFits w64 (pos f *ℤ z)
product_fits f z small low high =
    let size : nat_abs z ≤ 2 ^ 31 = omega (arith, ints) in
    omega (arith, ints, fits_to f z small size)

module _ (f : ℕ) (some : 0 < f) where
  pub stays_at : (most n : ℤ) → least_asked ≤ℤ most → most ≤ℤ pos speed_top → (pos f *ℤ most) ≤ℤ n → AsFar most (floored f n) most
  stays_at (pos m) (pos n) low high h = let e = stays f m n some (omega (arith, ints)) (omega (arith, ints)) in record { lesser = omega (arith, ints, clamps); least = low }
  stays_at (pos m) (negsuc n) low high h = record { lesser = omega (arith, ints, clamps); least = low }
  stays_at (negsuc m) n low high h = let l = floored_low f n in record { lesser = omega (arith, ints, clamps); least = low }

  -- the number does not stay, so the quotient is the lesser of the two
  pub falls_to : (most n : ℤ) → least_asked ≤ℤ most → most ≤ℤ pos speed_top → int_lt n (pos 0) ≡ false → ((pos f *ℤ most) ≤ℤ n → ⊥) → AsFar most (floored f n) (pos (nat_abs n / f))
  falls_to (pos m) (pos n) low high some_room h =
      let c : (f * m ≤ n → ⊥) = λ l. h (omega (arith, ints)) in
      let l = lower_quotient f m n some (omega (arith, ints)) (omega arith) in
      record { lesser = omega (arith, ints, clamps); least = omega (arith, ints) }
  falls_to (negsuc m) (pos n) low high some_room h = absurd (h (omega (arith, ints, size_neg (pos (f * nat_abs (negsuc m))))))
  falls_to most (negsuc n) low high some_room h = omega (arith, ints)
