-- What a ramp allows is the smaller of what its two halves allow.
use Rattle.std.proofs.Common.{◌≡◌, ℕ, ◌+◌, ◌<◌, ◌≤◌, true, false, ◌&&◌, List, length, ℤ, pos, ap, sym, ◌∙◌, ⊎_elim, arith}
use Rattle.std.specs.Prelude.{nat_lt}
use Rattle.std.specs.Int.{int_min}
use Rattle.std.proofs.lemmas.Int.{ints, clamps}
use Rattle.std.proofs.lemmas.Bool.{cond-true, cond-false, lt-ltb, le-ltb, cases_lt, and_right}
use Rattle.grade.specs.Profiles.{Profile}
use Rattle.motion.specs.declared.steps.Step.{Step}
use Rattle.motion.specs.Ramps.{before, before_allows, after, ramp}

pub ramp_sides : (top : ℕ) (steps : List Step) (p : Profile) (i : ℕ) → ramp top steps p i ≡ int_min (before_allows top steps p i) (after top steps p i)
ramp_sides top steps p i =
    ⊎_elim (λ (l : i < length p).
    let t : nat_lt i (length p) ≡ true = lt-ltb i (length p) l in
    let r : ramp top steps p i ≡ int_min (before top steps p i) (after top steps p i) = cond-true (nat_lt i (length p)) _ _ t in
    let b : before_allows top steps p i ≡ before top steps p i = cond-true (nat_lt i (length p)) _ _ t in
    r ∙ ap (λ (z : ℤ). int_min z (after top steps p i)) (sym b))
    (λ (l : length p ≤ i).
    let t : nat_lt i (length p) ≡ false = le-ltb i (length p) l in
    let r : ramp top steps p i ≡ pos top = cond-false (nat_lt i (length p)) _ _ t in
    let b : before_allows top steps p i ≡ pos top = cond-false (nat_lt i (length p)) _ _ t in
    let a : after top steps p i ≡ pos top = cond-false (nat_lt i (length steps) && nat_lt (i + 1) (length p)) _ _ (and_right _ _ (le-ltb (i + 1) (length p) (omega arith))) in
    omega (arith, ints, clamps))
    (cases_lt i (length p))
