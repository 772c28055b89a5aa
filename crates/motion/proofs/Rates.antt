-- Two profiles that the rate rows let through, whose greater at each sample they do not.
use Rattle.std.proofs.Common.{◌≡◌, ℕ, zero, suc, ◌+◌, ◌*◌, ◌<◌, ◌≤◌, [], ◌∷◌, ℤ, pos, ◌-ℤ◌, ◌≤ℤ◌, ◌<ℤ◌, refl, div-one, arith}
use Rattle.std.proofs.lemmas.Int.{ints}
use Rattle.grade.specs.Profiles.{Profile, rank, Within, AtMost}
use Rattle.grade.specs.Tops.{speed_top}
use Rattle.limit.specs.Numbers.{Keeps}
use Rattle.motion.specs.Floors.{floored}
use Rattle.motion.specs.Rates.{WithinRate, rate, RateFalls, RateBreaksRule, RateIsNoLimit, level, raised}

abbrev three : ℕ → ℕ → ℕ → Profile
three a b c = a ∷ b ∷ c ∷ []

-- what holds at each of three samples
each : (P : ℕ → Type 0) → P 0 → P 1 → P 2 → (i : ℕ) → i < 3 → P i
each P x y z zero h = x
each P x y z (suc zero) h = y
each P x y z (suc (suc zero)) h = z
each P x y z (suc (suc (suc i))) h = absurd (omega arith)

rated : (q a b c : ℕ) → c + a ≤ q + 2 * b → WithinRate q (three a b c)
rated q a b c h zero l k = absurd (omega arith)
rated q a b c h (suc zero) l k = h
rated q a b c h (suc (suc i)) l k = absurd (omega arith)

within : (a b c : ℕ) → a ≤ speed_top → b ≤ speed_top → c ≤ speed_top → Within speed_top (three a b c)
within a b c x y z = each (λ i. rank (three a b c) i ≤ speed_top) x y z

under : (a b c a' b' c' : ℕ) → a ≤ a' → b ≤ b' → c ≤ c' → AtMost (three a b c) (three a' b' c')
under a b c a' b' c' x y z = each (λ i. rank (three a b c) i ≤ rank (three a' b' c') i) x y z

one_less : (m n : ℤ) (q : ℕ) → m ≡ pos q → n ≡ pos (suc q) → suc q ≤ speed_top → floored 1 m <ℤ floored 1 n
one_less m n q a b l = rw (a, b) (omega (arith, ints, div-one q, div-one (suc q)))

lower : (q : ℕ) → q ≤ speed_top → rate q raised 2 <ℤ rate q level 2
lower zero l = record { lt = tt }
lower (suc q) l = one_less (pos (suc q + 2 * 0) -ℤ pos 1) (pos (suc q + 2 * 0) -ℤ pos 0) q (omega (arith, ints)) (omega (arith, ints)) l

pub falls : RateFalls
falls = (under 0 0 0 1 0 0 (omega arith) (omega arith) (omega arith), lower)

pub breaks_rule : RateBreaksRule
breaks_rule q l rule =
    let a = lower q l in
    let b = rule level raised (within 0 0 0 (omega arith) (omega arith) (omega arith)) (within 1 0 0 (omega arith) (omega arith) (omega arith)) refl falls.0 2 in
    omega (arith, ints)

pub is_no_limit : RateIsNoLimit
is_no_limit q l number rule exactly =
    let a = q + 2 in
    let left = three a 1 0 in
    let right = three 0 1 a in
    let both = three a 1 a in
    let wl = within a 1 0 l (omega arith) (omega arith) in
    let wr = within 0 1 a (omega arith) (omega arith) l in
    let wb = within a 1 a l (omega arith) l in
    let kl = (exactly left wl).1 (rated q a 1 0 (omega arith)) in
    let kr = (exactly right wr).1 (rated q 0 1 a (omega arith)) in
    let ul = rule left both wl wb refl (under a 1 0 a 1 a (omega arith) (omega arith) (omega arith)) in
    let ur = rule right both wr wb refl (under 0 1 a a 1 a (omega arith) (omega arith) (omega arith)) in
    let kb : Keeps number both = each (λ i. pos (rank both i) ≤ℤ number both i)
    (omega (arith, ints, kl 0 (omega arith), ul 0))
    (omega (arith, ints, kl 1 (omega arith), ul 1))
    (omega (arith, ints, kr 2 (omega arith), ur 2)) in
    let broken : a + a ≤ q + 2 * 1 = (exactly both wb).0 kb 1 (omega arith) (omega arith) in
    omega arith
