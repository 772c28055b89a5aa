-- A ramp keeps the rule, and is kept exactly by the profiles that are in step.
use Rattle.std.specs.Prelude.{◌≡◌, ℕ, ◌+◌, ◌-◌, ◌<◌, ◌≤◌, ◌&&◌, ltb, ◌↔◌, List, length, ℤ, pos, negsuc, ◌≤ℤ◌, nat_le, nat_lt, slice_index_or}
use Rattle.std.proofs.Common.{ap, arith}
use Rattle.std.specs.Int.{int_min}
use Rattle.std.proofs.lemmas.Int.{ints, clamps}
use Rattle.std.proofs.lemmas.Bool.Decides.{nat_tests}
use Rattle.std.proofs.lemmas.Bool.{lt-ltb, ltb-true}
use Rattle.grade.specs.Profiles.{Profile, rank}
use Rattle.motion.specs.declared.steps.Step.{Step}
use Rattle.limit.specs.Numbers.{Keeps, KeptExactly}
use Rattle.motion.specs.Ramps.{no_step, before, after, ramp, WithinSteps, WithinStepsAt}
use Rattle.limit.specs.NumbersLemmas.{min_mono, under_min, where_mono, under_where}

module _ (top : ℕ) (steps : List Step) where
  pub ramp_low : (p : Profile) (i : ℕ) → negsuc 0 ≤ℤ ramp top steps p i
  ramp_low p i = grind (arith, ints, clamps, nat_tests)

  pub ramp_high : (p : Profile) (i : ℕ) → ramp top steps p i ≤ℤ pos top
  ramp_high p i = grind (arith, ints, clamps, nat_tests)

  pub ramp_outside : (p : Profile) (i : ℕ) → length p ≤ i → ramp top steps p i ≡ pos top
  ramp_outside p i h = grind (arith, ints, clamps, nat_tests)

  module _ (p q : Profile) (len : length p ≡ length q) (le : (k : ℕ) → rank p k ≤ rank q k) (i : ℕ) where
    before_mono : before top steps p i ≤ℤ before top steps q i
    before_mono = where_mono (nat_lt 0 i && nat_le i (length steps)) _ _ top (omega (arith, ints, le (i - 1)))

    after_mono : after top steps p i ≤ℤ after top steps q i
    after_mono = rw len (where_mono (nat_lt i (length steps) && nat_lt (i + 1) (length q)) _ _ top (omega (arith, ints, le (i + 1))))

    pub ramp_mono : ramp top steps p i ≤ℤ ramp top steps q i
    ramp_mono =
        let e : ltb i (length p) ≡ ltb i (length q) = ap (ltb i) len in
        rw e (where_mono (nat_lt i (length q)) _ _ top (min_mono _ _ _ _ before_mono after_mono))

  -- between two others, as far as a number
  pub ramp_within : (p : Profile) (i : ℕ) (most : ℤ) → 1 ≤ i → i + 1 < length p → i < length steps → most ≤ℤ pos top
      → int_min (int_min most (pos (rank p (i - 1) + (slice_index_or steps (i - 1) no_step).up))) (pos (rank p (i + 1) + (slice_index_or steps i no_step).down)) ≡ int_min most (ramp top steps p i)
  ramp_within p i most first last spanned high = grind (arith, ints, clamps, nat_tests)

  -- ---- what keeps it

  module _ (p : Profile) where
    at_before : (i x : ℕ) → x ≤ top → (pos x ≤ℤ before top steps p i) ↔ (0 < i → i ≤ length steps → x ≤ rank p (i - 1) + (slice_index_or steps (i - 1) no_step).up)
    at_before i x l = grind (arith, ints, clamps, nat_tests)

    at_after : (i x : ℕ) → x ≤ top → (pos x ≤ℤ after top steps p i) ↔ (i < length steps → i + 1 < length p → x ≤ rank p (i + 1) + (slice_index_or steps i no_step).down)
    at_after i x l = grind (arith, ints, clamps, nat_tests)

    -- a rank is at most the number exactly when it keeps the steps there
    pub under_ramp : (i x : ℕ) → x ≤ top → (pos x ≤ℤ ramp top steps p i) ↔ WithinStepsAt steps p i x
    under_ramp i x l =
        let u = under_where (nat_lt i (length p)) (int_min (before top steps p i) (after top steps p i)) top x l in
        let m = under_min (pos x) (before top steps p i) (after top steps p i) in (
          (λ k. record {
            rises = λ a b c. (at_before i x l).0 (m.0 (u.0 k (lt-ltb i (length p) b))).0 a c;
            falls = λ a b. (at_after i x l).0 (m.0 (u.0 k (lt-ltb i (length p) (omega arith)))).1 b a;
          }),
          λ k. u.1 (λ e. m.1 ((at_before i x l).1 (λ a c. k.rises a (ltb-true i (length p) e) c), (at_after i x l).1 (λ b a. k.falls a b))),
        )

  pub keeps_ramp : KeptExactly top (ramp top steps) (WithinSteps steps)
  keeps_ramp p w = (to, from)
    where
      to : Keeps (ramp top steps) p → WithinSteps steps p
      to k = record {
        rises = λ i a b. let h = ((under_ramp p (i + 1) (rank p (i + 1)) (w (i + 1) b)).0 (k (i + 1) b)).rises (omega arith) b (omega arith) in
            let e : i + 1 - 1 ≡ i = omega arith in rw e at h;
        falls = λ i a b. let c : i < length p = omega arith in ((under_ramp p i (rank p i) (w i c)).0 (k i c)).falls b a;
      }

      from : WithinSteps steps p → Keeps (ramp top steps) p
      from s i h = (under_ramp p i (rank p i) (w i h)).1 (record {
        rises = λ a b c. let e : i - 1 + 1 ≡ i = omega arith in let k = s.rises (i - 1) (omega arith) (omega arith) in rw e at k;
        falls = λ a b. s.falls i b a;
      })
