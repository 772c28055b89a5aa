-- A finite pattern is no NaN's, and neither is what is written as one.
use Rattle.std.proofs.Common.{◌≡◌, ℕ, ◌%◌, ◌^◌, ◌<◌, Bool, true, false, not, T, sym, ◌∙◌, subst, true≢false, arith}
use lib.Ieee.{Float, nan, inf, fin, binary32, to_bits, of_bits, nan_bits, is_nan}
use lib.Ieee.Bits.{nan_bits_is, nan_bits_above, to_bits-of_bits}
use Rattle.std.proofs.lemmas.Bool.{ltb-true, le-ltb}
use Rattle.caps.specs.Floats.{finite_bits}

no_nan : (b : ℕ) → finite_bits b ≡ true → nan_bits binary32 b ≡ false
no_nan b h = nan_bits_above binary32 b ∙ le-ltb 2139095040 (b % 2147483648) (omega (arith, ltb-true (b % 2147483648) 2139095040 h))

pub number_bits : (b : ℕ) → finite_bits b ≡ true → T (not (nan_bits binary32 b))
number_bits b h = rw (no_nan b h) tt

pub back : (b : ℕ) → b < 2 ^ 32 → finite_bits b ≡ true → to_bits binary32 (of_bits binary32 b) ≡ b
back b l h = to_bits-of_bits binary32 b l (subst (λ (x : Bool). T (not x)) (nan_bits_is binary32 b) (number_bits b h))

pub number_float : (v : Float) → finite_bits (to_bits binary32 v) ≡ true → T (not (is_nan v))
unfolding is_nan to_bits
number_float nan h = absurd (true≢false (sym h))
number_float (inf s) h = tt
number_float (fin s m e) h = tt
