-- An average keeps the rule, and is kept exactly by the profiles that are averaged.
use Rattle.std.specs.Prelude.{◌≡◌, ℕ, ◌+◌, ◌-◌, ◌<◌, ◌≤◌, Bool, ◌&&◌, ◌↔◌, List, length, ℤ, pos, negsuc, ◌≤ℤ◌, nat_lt}
use Rattle.std.proofs.Common.{arith, w64, SFits}
use Rattle.std.specs.Int.{int_min}
use Rattle.std.specs.Int.Signed.{shr_z}
use Rattle.std.proofs.lemmas.Int.{ints, clamps}
use Rattle.std.proofs.lemmas.Bool.Decides.{nat_tests}
use Rattle.std.proofs.lemmas.Bool.{cond-true, lt-ltb, ltb-true, and_parts, and_from}
use Rattle.grade.specs.Profiles.{Profile, rank}
use Rattle.limit.specs.Numbers.{clamped, least_asked, KeptExactly}
use Rattle.grade.specs.Tops.{speed_top}
use Rattle.motion.specs.Floors.{floored}
use Rattle.motion.specs.Averages.{around, average, WithinAverage, WithinAverageAt}
use Rattle.motion.specs.FloorsLemmas.{floored_high, floored_mono, under_floored}
use Rattle.limit.specs.NumbersLemmas.{where_high, where_mono, under_where}

-- half a sum, rounded down, is the floor; below 0 it may be any number
pub half_within : (most n : ℤ) → most ≤ℤ pos speed_top → clamped (int_min most (shr_z n 2)) ≡ int_min (clamped most) (floored 2 n)
half_within most (pos n) high = omega (arith, ints, clamps)
half_within most (negsuc n) high = omega (arith, ints, clamps)

pub half_fits : (n : ℤ) → SFits w64 n → SFits w64 (shr_z n 2)
half_fits (pos n) fits = omega (arith, ints)
half_fits (negsuc n) fits = omega (arith, ints)

pub half_least : (n : ℤ) → least_asked ≤ℤ n → least_asked ≤ℤ shr_z n 2
half_least (pos n) low = omega (arith, ints)
half_least (negsuc n) low = omega (arith, ints)

module _ (qs : List ℤ) where
  abbrev inner : Profile → ℕ → Bool
  inner p i = nat_lt 0 i && (nat_lt (i + 1) (length p) && nat_lt i (length qs))

  pub average_low : (p : Profile) (i : ℕ) → negsuc 0 ≤ℤ average qs p i
  average_low p i = grind (arith, ints, clamps, nat_tests)

  pub average_high : (p : Profile) (i : ℕ) → average qs p i ≤ℤ pos speed_top
  average_high p i = where_high (inner p i) _ speed_top (floored_high 2 (around qs p i))

  pub average_outside : (p : Profile) (i : ℕ) → length p ≤ i → average qs p i ≡ pos speed_top
  average_outside p i h = grind (arith, ints, clamps, nat_tests)

  pub average_mono : (p q : Profile) → length p ≡ length q → ((k : ℕ) → rank p k ≤ rank q k) → (i : ℕ) → average qs p i ≤ℤ average qs q i
  average_mono p q len le i =
      rw len (where_mono (inner q i) _ _ speed_top (floored_mono 2 (around qs p i) (around qs q i) (omega (arith, ints, le (i - 1), le (i + 1)))))

  -- between two others
  pub average_inner : (p : Profile) (i : ℕ) → 1 ≤ i → i + 1 < length p → i < length qs → average qs p i ≡ floored 2 (around qs p i)
  average_inner p i first last spanned =
      let t = and_from _ _ (lt-ltb 0 i (omega arith)) (and_from _ _ (lt-ltb (i + 1) (length p) last) (lt-ltb i (length qs) spanned)) in
      cond-true (inner p i) (floored 2 (around qs p i)) (pos speed_top) t

  -- a squared speed is at most the number exactly when it keeps the inequality there
  pub under_average : (p : Profile) (i x : ℕ) → x ≤ speed_top → (pos x ≤ℤ average qs p i) ↔ WithinAverageAt qs p i x
  under_average p i x l =
      let f = under_floored 2 (around qs p i) x (omega arith) l in
      let u = under_where (inner p i) (floored 2 (around qs p i)) speed_top x l in (
        (λ k a b c. f.0 (u.0 k (and_from _ _ (lt-ltb 0 i a) (and_from _ _ (lt-ltb (i + 1) (length p) b) (lt-ltb i (length qs) c))))),
        λ k. u.1 (λ e. let t = and_parts (nat_lt 0 i) (nat_lt (i + 1) (length p) && nat_lt i (length qs)) e in
            let v = and_parts (nat_lt (i + 1) (length p)) (nat_lt i (length qs)) t.1 in
            f.1 (k (ltb-true 0 i t.0) (ltb-true (i + 1) (length p) v.0) (ltb-true i (length qs) v.1))),
      )

  pub keeps_average : KeptExactly speed_top (average qs) (WithinAverage qs)
  keeps_average p w = (
    (λ k i a b c. let l : i < length p = omega arith in (under_average p i (rank p i) (w i l)).0 (k i l) a b c),
    λ h i l. (under_average p i (rank p i) (w i l)).1 (h i),
  )
