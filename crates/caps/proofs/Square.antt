-- The square of an `f32` in `f64`, times 65536, is exact.
use Rattle.std.proofs.Common.{◌≡◌, ℕ, ◌+◌, ◌*◌, ◌/◌, ◌^◌, ◌<◌, ◌≤◌, min, Bool, true, false, T, eqb, leb, pos, sym, refl, ap, ◌∙◌, subst, lt_of_lt_of_le, mul_assoc, le-div_iff_mul-le, mul_left_comm, two-mul, arith, lit<, pow_pos, pow_mono, pow-add, shl_lt}
use native.Mathlib.Nat.{min-le_left, min-le_right, le-min, mul-div-mul_right, mul-mul-mul_comm}
use lib.Ieee.{Float, fin, binary32, binary64, mul, unlike, to_unsigned, fits}
use lib.Ieee.Exact.{HasValue}
use Rattle.std.proofs.lemmas.Nat.{mod_below, mul-lt}
use Rattle.std.proofs.lemmas.Bool.{cond_both}
use Rattle.caps.specs.Floats.{bits_of, exponent, fraction, significand, shift}
use Rattle.caps.specs.Caps.{SpeedCap}
use Rattle.caps.proofs.Values.{of_float, mul_exact, cut}

unlike_same : (s : Bool) → unlike s s ≡ false
unlike_same true = refl
unlike_same false = refl

-- s of 24 digits and x up to 253
significand_lt : (b : ℕ) → significand b < 2 ^ 24
significand_lt b =
    let h : fraction b < 2 ^ 23 = mod_below b (2 ^ 23) (lit< tt) in
    cond_both (eqb (exponent b) 0) (fraction b) (2 ^ 23 + fraction b) (λ n. n < 2 ^ 24) (λ e. omega arith) (λ e. omega arith)

square_small : (s : ℕ) → s < 2 ^ 24 → s * s < 2 ^ 48
square_small s h = mul-lt s s (2 ^ 24) (2 ^ 24) h h

regroup : (s p K D N : ℕ) → N ≡ K * D → s * p * (s * p) * N ≡ s * s * (p * p * K) * D
regroup s p K D N e = rw e (simp (mul_assoc, mul_left_comm))

pow_three : (x k : ℕ) → 2 ^ (x + x + k) ≡ 2 ^ x * 2 ^ x * 2 ^ k
pow_three x k = pow-add 2 (x + x) k ∙ ap (λ (z : ℕ). z * 2 ^ k) (pow-add 2 x x)

under : (q x k l : ℕ) → q < 2 ^ 48 → 48 + (x + x + k) ≤ l → q * 2 ^ (x + x + k) < 2 ^ l
under q x k l h le = lt_of_lt_of_le (shl_lt 48 (x + x + k) h) (pow_mono le)

narrow : (q : ℕ) → q < 2 ^ 48 → q < 2 ^ 53
narrow q h = omega arith

module _ (v : Float) (g : Bool) (s x : ℕ) (small : s < 2 ^ 24) (far : x < 254) (h : HasValue v g (s * 2 ^ x) (2 ^ 149)) where
  square : HasValue (mul binary64 v v) false (s * 2 ^ x * (s * 2 ^ x)) (2 ^ 298)
  square =
      let e : s * 2 ^ x * (s * 2 ^ x) * 2 ^ 1074 ≡ s * s * 2 ^ (x + x + 776) * 2 ^ 298 =
      regroup s (2 ^ x) (2 ^ 776) (2 ^ 298) (2 ^ 1074) refl ∙ ap (λ (z : ℕ). s * s * z * 2 ^ 298) (sym (pow_three x 776)) in
      let q : s * s < 2 ^ 48 = square_small s small in
      subst (λ (z : Bool). HasValue (mul binary64 v v) z (s * 2 ^ x * (s * 2 ^ x)) (2 ^ 298)) (unlike_same g)
      (mul_exact binary64 v v g g (s * 2 ^ x) (2 ^ 149) (s * 2 ^ x) (2 ^ 149) (s * s) (x + x + 776) (pow_pos 149) (pow_pos 149) h h
      (narrow (s * s) q) (under (s * s) x 776 2098 q (omega arith)) e)

  scaled : HasValue (mul binary64 (mul binary64 v v) (fin false 1 (pos 16))) false (s * 2 ^ x * (s * 2 ^ x) * 65536) (2 ^ 298)
  scaled =
      let S = s * 2 ^ x * (s * 2 ^ x) in
      let e : S * 65536 * 2 ^ 1074 ≡ s * s * 2 ^ (x + x + 792) * 2 ^ 298 =
      mul_assoc S 65536 (2 ^ 1074) ∙ regroup s (2 ^ x) (2 ^ 792) (2 ^ 298) (2 ^ 1090) refl ∙ ap (λ (z : ℕ). s * s * z * 2 ^ 298) (sym (pow_three x 792)) in
      let q : s * s < 2 ^ 48 = square_small s small in
      mul_exact binary64 (mul binary64 v v) (fin false 1 (pos 16)) false false S (2 ^ 298) 65536 1 (s * s) (x + x + 792) (pow_pos 298) (pow_pos 0) square (refl, refl)
      (narrow (s * s) q) (under (s * s) x 792 2098 q (omega arith)) e

abbrev pub scaled_of : Float → Float
scaled_of v = mul binary64 (mul binary64 v v) (fin false 1 (pos 16))

-- the scaled square is size b / 2 ^ 298
abbrev pub size : ℕ → ℕ
size b = significand b * 2 ^ shift b * (significand b * 2 ^ shift b) * 65536

pub value : (v : Float) → T (fits binary32 v) → exponent (bits_of v) < 255 → HasValue (scaled_of v) false (size (bits_of v)) (2 ^ 298)
value v f h =
    let b = bits_of v in
    let far : shift b < 254 = omega arith in
    scaled v (leb (2 ^ 31) b) (significand b) (shift b) (significand_lt b) far (of_float v f h)

-- ---- the greatest, by a quotient
quotient : (W D r : ℕ) → 0 < D → r ≡ min (W / D) 2147483647
    → (r ≤ 2147483647) × (r * D ≤ W) × ((u : ℕ) → u ≤ 2147483647 → u * D ≤ W → u ≤ r)
quotient W D r d e =
    let w = W / D in
    let f : r ≤ w = omega (arith, min-le_left w 2147483647) in
    (omega (arith, min-le_right w 2147483647), (le-div_iff_mul-le d).0 f, λ u a b. least u a ((le-div_iff_mul-le d).1 b))
  where
    least : (u : ℕ) → u ≤ 2147483647 → u ≤ W / D → u ≤ r
    least u a b = rw e (le-min b a)

pub by_quotient : (v : Float) (r : ℕ) → T (fits binary32 v) → exponent (bits_of v) < 255 → r ≡ min (size (bits_of v) / 2 ^ 298) 2147483647 → SpeedCap (bits_of v) r
by_quotient v r f h e =
    let b = bits_of v in
    let s = significand b in
    let x = shift b in
    let S = s * 2 ^ x * (s * 2 ^ x) in
    let i : S * 65536 / 2 ^ 298 ≡ S / 2 ^ 282 = mul-div-mul_right {m = 65536} S (2 ^ 282) (lit< tt) in
    let j : S ≡ s * s * 2 ^ (2 * x) = mul-mul-mul_comm s (2 ^ x) s (2 ^ x) ∙ ap (λ (z : ℕ). s * s * z) (sym (pow-add 2 x x) ∙ ap (λ (z : ℕ). 2 ^ z) (sym (two-mul x))) in
    let all = quotient (s * s * 2 ^ (2 * x)) (2 ^ 282) r (pow_pos 282) (e ∙ ap (λ (z : ℕ). min z 2147483647) (i ∙ ap (λ (z : ℕ). z / 2 ^ 282) j)) in
    record { within = all.0; fits = all.1; greatest = all.2 }

narrower : (q : ℕ) → min (min q 4294967295) 2147483647 ≡ min q 2147483647
narrower q = omega arith

pub speed_cap_fits : (v : Float) (r : ℕ) → T (fits binary32 v) → exponent (bits_of v) < 255 → r ≡ min (to_unsigned 32 (scaled_of v)) 2147483647 → SpeedCap (bits_of v) r
speed_cap_fits v r f h e =
    let q = size (bits_of v) / 2 ^ 298 in
    by_quotient v r f h (e ∙ ap (λ (z : ℕ). min z 2147483647) (cut 32 (scaled_of v) (size (bits_of v)) (2 ^ 298) (pow_pos 298) (value v f h)) ∙ narrower q)
