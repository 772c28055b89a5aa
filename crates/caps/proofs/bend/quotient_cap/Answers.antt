use Rattle.std.proofs.Common.{◌≡◌, ℕ, ◌+◌, ◌-◌, ◌*◌, ◌/◌, ◌%◌, ◌^◌, ◌<◌, ◌≤◌, min, ap, ◌∙◌, subst, arith}
use native.Mathlib.Nat.{min-le_right}
use Rattle.std.proofs.lemmas.Nat.{shl_whole}
use Rattle.caps.specs.Caps.{BendCap}
use Rattle.caps.proofs.Quotients.{cap_large, cap_small}
use Rattle.caps.proofs.bend.quotient_cap.Goals as goal
use Rattle.caps.proofs.bend.quotient_cap.Goals.{then-x-ge-UNIT, else-x-ge-UNIT}

-- a shift by at most m places loses nothing
whole : (v j z m : ℕ) → v < 2 ^ j → j + m ≤ 128 → v * 2 ^ min z m % 2 ^ 128 ≡ v * 2 ^ min z m
whole v j z m h l = shl_whole v j (min z m) 128 h (omega (arith, min-le_right z m))

pub returns : goal.returns
returns c =
    let s = c.args.s in
    let x = c.args.x in
    let a = c.args.a in
    let S : 0 < s = omega arith in
    elim c.if-x-ge-UNIT.branch [
      | then-x-ge-UNIT w ↦
          let z = x - 149 in
          let n : z + 149 ≡ x = omega (arith, w.if-x-ge-UNIT.true) in
          let e : c.if-x-ge-UNIT.w ≡ a / (s * 2 ^ min z 32) =
          w.w-is ∙ ap (λ (k : ℕ). a / (s * 2 ^ k % 2 ^ 128)) w.min-by.ensures ∙ ap (λ (k : ℕ). a / k) (whole s 24 z 32 c.requires.0 (omega arith)) in
          subst (λ (k : ℕ). BendCap s k a c.min.result) n
          (cap_large s z a c.min.result S c.ranges.a.fits (c.min.ensures ∙ ap (λ (k : ℕ). min k 2147483647) e))
      | else-x-ge-UNIT w ↦
          let y = 149 - x in
          let n : x + y ≡ 149 = omega (arith, w.if-x-ge-UNIT.false) in
          let e : c.if-x-ge-UNIT.w ≡ a * 2 ^ min y 55 / s =
          w.w-is ∙ ap (λ (k : ℕ). a * 2 ^ k % 2 ^ 128 / s) w.min-by-else-x-ge-UNIT.ensures ∙ ap (λ (k : ℕ). k / s) (whole a 32 y 55 c.ranges.a.fits (omega arith)) in
          cap_small s x y a c.min.result S c.requires.0 n (c.min.ensures ∙ ap (λ (k : ℕ). min k 2147483647) e)
    ]
