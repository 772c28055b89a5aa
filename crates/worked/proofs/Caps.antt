-- The caps of the examples, by quotients.
use Rattle.std.proofs.Common.{◌≡◌, ℕ, ◌*◌, ◌/◌, ◌^◌, ◌<◌, ◌≤◌, min, true, Ok, sym, refl, ap, subst, le_trans, le_of_eq, mul_comm, arith}
use lib.Ieee.{of_bits, binary32}
use Rattle.caps.specs.Caps.{SpeedCap, BendCap}
use Rattle.caps.specs.Floats.{bits_of, finite_bits, significand, shift}
use Rattle.caps.proofs.Quotients.{largest}
use Rattle.clause.specs.declared.clause.CapClause.TheVariants.{Straight}
use Rattle.clause.specs.Clauses.{bend as bendOf}
use Rattle.clause.proofs.Patterns.{back}
use Rattle.grade.specs.Tops.{speed_top}
use Rattle.planner.specs.Starts.{clause_cap}
use Rattle.planner.proofs.Caps.{clause_cap_lem}
use Rattle.worked.specs.CapExamples.{CapExamples}

module _ (b : ℕ) (small : b < 2 ^ 32) (finite : finite_bits b ≡ true) where
  speed_cap_fits : (w : ℕ) → w ≡ min (significand b * significand b * 2 ^ (2 * shift b) / 2 ^ 282) speed_top → SpeedCap (bits_of (of_bits binary32 b)) w
  speed_cap_fits w is =
      let size : ℕ = significand b * significand b * 2 ^ (2 * shift b) in
      let l = largest (λ (u : ℕ). u * 2 ^ 282 ≤ size) (2 ^ 282) size w (omega arith) is (λ u _ h. le_trans (le_of_eq (mul_comm (2 ^ 282) u)) h) (λ u _ h. le_trans (le_of_eq (mul_comm u (2 ^ 282))) h) in
      subst (λ (x : ℕ). SpeedCap x w) (sym (back b small finite)) (record { within = l.0; fits = l.1; greatest = l.2 })

  bend_cap : (a w : ℕ) → 0 < significand b * 2 ^ shift b → w ≡ min (a * 2 ^ 149 / (significand b * 2 ^ shift b)) speed_top
      → BendCap (significand (bits_of (of_bits binary32 b))) (shift (bits_of (of_bits binary32 b))) a w
  bend_cap a w some is =
      let l = largest (λ (u : ℕ). significand b * 2 ^ shift b * u ≤ a * 2 ^ 149) (significand b * 2 ^ shift b) (a * 2 ^ 149) w some is (λ u _ h. h) (λ u _ h. h) in
      subst (λ (x : ℕ). BendCap (significand x) (shift x) a w) (sym (back b small finite)) (record { within = l.0; fits = l.1; greatest = l.2 })

  straight_is : (a w : ℕ) → w ≡ min (significand b * significand b * 2 ^ (2 * shift b) / 2 ^ 282) speed_top → clause_cap a (Straight (of_bits binary32 b)) ≡ w
  straight_is a w is = sym (clause_cap_lem (Straight (of_bits binary32 b)) a w (speed_cap_fits w is))

bent_is : clause_cap 131072 (bendOf (of_bits binary32 0x3F80_0000) (of_bits binary32 0x4040_0000)) ≡ 43690
bent_is =
    sym (clause_cap_lem (bendOf (of_bits binary32 0x3F80_0000) (of_bits binary32 0x4040_0000)) 131072 43690
    (65536, 43690, speed_cap_fits 0x3F80_0000 (omega arith) refl 65536 refl, bend_cap 0x4040_0000 (omega arith) refl 131072 43690 (omega arith) refl, refl))

pub caps_shown : CapExamples
caps_shown = record {
  quarter_is = refl;
  quarter = λ a. ap Ok (straight_is 0x3E80_0000 (omega arith) refl a 4096 refl);
  tenth_is = refl;
  tenth = λ a. ap Ok (straight_is 0x3DCC_CCCD (omega arith) refl a 655 refl);
  slower_is = refl;
  slower = λ a. ap Ok (straight_is 0x4335_0000 (omega arith) refl a 2147024896 refl);
  faster_is = refl;
  faster = λ a. ap Ok (straight_is 0x4336_0000 (omega arith) refl a 2147483647 refl);
  one_is = refl;
  three_is = refl;
  bent = ap Ok bent_is;
}
