-- The flooring leaf: a sample is at speed_top the floor exactly when it fits.
use Rattle.std.specs.Prelude.{◌≡◌, ℕ, zero, suc, ◌*◌, ◌/◌, ◌<◌, ◌≤◌, min, false, ◌↔◌, ℤ, pos, negsuc, ◌≤ℤ◌, int_lt, unsigned_abs}
use Rattle.std.proofs.Common.{ap, true≢false, arith, mul_comm, le-div_iff_mul-le}
use Rattle.std.proofs.Math.Nat.{div-zero, div-mul-le_self}
use Rattle.std.proofs.lemmas.Nat.{le-div}
use Rattle.std.proofs.lemmas.Int.{ints}
use Rattle.grade.specs.Tops.{speed_top}
use Rattle.motion.specs.Floors.{floored}

quotient_mono : (f m n : ℕ) → m ≤ n → m / f ≤ n / f
quotient_mono zero m n h = omega (arith, div-zero m)
quotient_mono (suc f) m n h = le-div (m / suc f) n (suc f) (omega arith) (omega (arith, div-mul-le_self m (suc f)))

-- how the leaf computes it
pub floored_is : (f g : ℕ) (n : ℤ) → int_lt n (pos 0) ≡ false → g ≡ min (unsigned_abs n / f) speed_top → pos g ≡ floored f n
floored_is f g (pos n) h e = ap pos e
floored_is f g (negsuc n) h e = absurd (true≢false h)

pub floored_low : (f : ℕ) (n : ℤ) → negsuc 0 ≤ℤ floored f n
floored_low f (pos n) = omega (arith, ints)
floored_low f (negsuc n) = omega (arith, ints)

pub floored_high : (f : ℕ) (n : ℤ) → floored f n ≤ℤ pos speed_top
floored_high f (pos n) = omega (arith, ints)
floored_high f (negsuc n) = omega (arith, ints)

pub floored_mono : (f : ℕ) (m n : ℤ) → m ≤ℤ n → floored f m ≤ℤ floored f n
floored_mono f (pos m) (pos n) h = let l : m ≤ n = omega (arith, ints) in omega (arith, ints, quotient_mono f m n l)
floored_mono f (pos m) (negsuc n) h = absurd (omega (arith, ints))
floored_mono f (negsuc m) (pos n) h = omega (arith, ints)
floored_mono f (negsuc m) (negsuc n) h = omega (arith, ints)

pub under_floored : (f : ℕ) (n : ℤ) (x : ℕ) → 0 < f → x ≤ speed_top → (pos x ≤ℤ floored f n) ↔ (pos (f * x) ≤ℤ n)
under_floored f (pos n) x F l = (
  (λ h. let a : x ≤ n / f = omega (arith, ints) in omega (arith, ints, (le-div_iff_mul-le F).0 a, mul_comm f x)),
  λ h. let a : x * f ≤ n = omega (arith, ints, mul_comm f x) in omega (arith, ints, (le-div_iff_mul-le F).1 a),
)
under_floored f (negsuc n) x F l = ((λ h. absurd (omega (arith, ints))), λ h. absurd (omega (arith, ints)))
