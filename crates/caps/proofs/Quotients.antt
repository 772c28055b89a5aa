-- The greatest number that an inequality lets through, by a quotient.
use Rattle.std.proofs.Common.{◌≡◌, ℕ, zero, suc, ◌+◌, ◌*◌, ◌/◌, ◌^◌, ◌<◌, ◌≤◌, min, sym, refl, ap, ◌∙◌, ⊎_elim, le_trans, le_of_eq, le_of_lt, mul-le-mul_right, mul_assoc, mul_comm, mul-le-mul_left, mul-pos, mul-zero, le-div_iff_mul-le, zero-mul, mul_right_comm, le_of_mul-le-mul_right, arith, pow_pos, pow_mono, pow-add}
use native.Mathlib.Nat.{min-le_left, min-le_right, le-min, min-eq_left, min-eq_right}
use Rattle.std.proofs.lemmas.Nat.{mul-lt}
use Rattle.std.proofs.lemmas.Bool.{cases_lt}
use Rattle.caps.specs.Caps.{BendCap}

abbrev MOST : ℕ
MOST = 2147483647

pub largest : (P : ℕ → Type 0) (D N w : ℕ) → 0 < D → w ≡ min (N / D) MOST
    → ((u : ℕ) → u ≤ MOST → P u → D * u ≤ N) → ((u : ℕ) → u ≤ MOST → D * u ≤ N → P u)
    → (w ≤ MOST) × P w × ((u : ℕ) → u ≤ MOST → P u → u ≤ w)
largest P D N w d e to from =
    let q = N / D in
    let a : w ≤ q = omega (arith, min-le_left q MOST) in
    let b : w ≤ MOST = omega (arith, min-le_right q MOST) in
    let c : D * w ≤ N = le_trans (le_of_eq (mul_comm D w)) ((le-div_iff_mul-le d).0 a) in
    (b, from w b c, λ u l p. top u l (to u l p))
  where
    top : (u : ℕ) → u ≤ MOST → D * u ≤ N → u ≤ w
    top u l p = rw e (le-min ((le-div_iff_mul-le d).1 (le_trans (le_of_eq (mul_comm u D)) p)) l)

-- ---- the power of two on one side only
up_is : (s z u : ℕ) → s * 2 ^ (z + 149) * u ≡ s * 2 ^ z * u * 2 ^ 149
up_is s z u = ap (λ (k : ℕ). s * k * u) (pow-add 2 z 149) ∙ ap (λ (k : ℕ). k * u) (sym (mul_assoc s (2 ^ z) (2 ^ 149))) ∙ mul_right_comm (s * 2 ^ z) (2 ^ 149) u

down_left : (s x u : ℕ) → s * 2 ^ x * u ≡ s * u * 2 ^ x
down_left s x u = mul_right_comm s (2 ^ x) u

down_right : (a x y : ℕ) → x + y ≡ 149 → a * 2 ^ 149 ≡ a * 2 ^ y * 2 ^ x
down_right a x y e = ap (λ (k : ℕ). a * 2 ^ k) (sym e) ∙ ap (λ (k : ℕ). a * k) (pow-add 2 x y ∙ mul_comm (2 ^ x) (2 ^ y)) ∙ sym (mul_assoc a (2 ^ y) (2 ^ x))

large_of : (s z a u : ℕ) → s * 2 ^ (z + 149) * u ≤ a * 2 ^ 149 → s * 2 ^ z * u ≤ a
large_of s z a u h = le_of_mul-le-mul_right (le_trans (le_of_eq (sym (up_is s z u))) h) (pow_pos 149)

large_to : (s z a u : ℕ) → s * 2 ^ z * u ≤ a → s * 2 ^ (z + 149) * u ≤ a * 2 ^ 149
large_to s z a u h = le_trans (le_of_eq (up_is s z u)) (mul-le-mul_right (2 ^ 149) h)

small_of : (s x y a u : ℕ) → x + y ≡ 149 → s * 2 ^ x * u ≤ a * 2 ^ 149 → s * u ≤ a * 2 ^ y
small_of s x y a u e h = le_of_mul-le-mul_right (le_trans (le_of_eq (sym (down_left s x u))) (le_trans h (le_of_eq (down_right a x y e)))) (pow_pos x)

small_to : (s x y a u : ℕ) → x + y ≡ 149 → s * u ≤ a * 2 ^ y → s * 2 ^ x * u ≤ a * 2 ^ 149
small_to s x y a u e h = le_trans (le_of_eq (down_left s x u)) (le_trans (mul-le-mul_right (2 ^ x) h) (le_of_eq (sym (down_right a x y e))))

-- ---- a shift by more than 32 or 55 places does what those do
-- s * 2 ^ z * u ≤ a, for an s above 0 and an a below 2 ^ 32
none_past : (s z u a : ℕ) → 0 < s → 32 ≤ z → a < 2 ^ 32 → s * 2 ^ z * u ≤ a → u ≡ 0
none_past s z zero a S Z A h = refl
none_past s z (suc u) a S Z A h =
    let p : 2 ^ 32 ≤ 2 ^ z = pow_mono Z in
    let q : 1 * 2 ^ z ≤ s * 2 ^ z = mul-le-mul_right (2 ^ z) S in
    let r : s * 2 ^ z * 1 ≤ s * 2 ^ z * suc u = mul-le-mul_left (s * 2 ^ z) (omega arith) in
    absurd (omega arith)

all_past : (s a y u : ℕ) → s < 16777216 → u ≤ MOST → 0 < a → 55 ≤ y → s * u ≤ a * 2 ^ y
all_past s a y u S U A Y =
    let p : 2 ^ 55 ≤ 2 ^ y = pow_mono Y in
    let q : 1 * 2 ^ y ≤ a * 2 ^ y = mul-le-mul_right (2 ^ y) A in
    let r : s * u < 16777216 * 2147483648 = mul-lt s u 16777216 2147483648 S (omega arith) in
    omega arith

nought : (s u k : ℕ) → u ≡ 0 → s * u ≤ k
nought s u k e = let z : s * u ≡ 0 = rw e (mul-zero s) in omega arith

no_room : (s u k : ℕ) → 0 < s → s * u ≤ 0 * k → u ≡ 0
no_room s zero k S h = refl
no_room s (suc u) k S h = let p : 0 < s * suc u = mul-pos S (omega arith) in let q : 0 * k ≡ 0 = zero-mul k in absurd (omega arith)

pub cap_large : (s z a w : ℕ) → 0 < s → a < 2 ^ 32 → w ≡ min (a / (s * 2 ^ min z 32)) MOST → BendCap s (z + 149) a w
cap_large s z a w S A e =
    let all = largest (λ u. s * 2 ^ (z + 149) * u ≤ a * 2 ^ 149) (s * 2 ^ min z 32) a w (mul-pos S (pow_pos (min z 32))) e (λ u l h. to u (large_of s z a u h)) (λ u l h. large_to s z a u (from u h)) in
    record { within = all.0; fits = all.1; greatest = all.2 }
  where
    to : (u : ℕ) → s * 2 ^ z * u ≤ a → s * 2 ^ min z 32 * u ≤ a
    to u h = ⊎_elim
        (λ (l : z < 32). let m : min z 32 ≡ z = min-eq_left (le_of_lt l) in rw m h)
        (λ (l : 32 ≤ z). nought (s * 2 ^ min z 32) u a (none_past s z u a S l A h))
        (cases_lt z 32)

    from : (u : ℕ) → s * 2 ^ min z 32 * u ≤ a → s * 2 ^ z * u ≤ a
    from u h = ⊎_elim
        (λ (l : z < 32). let m : min z 32 ≡ z = min-eq_left (le_of_lt l) in rw m at h)
        (λ (l : 32 ≤ z). let m : min z 32 ≡ 32 = min-eq_right l in nought (s * 2 ^ z) u a (none_past s 32 u a S (omega arith) A (rw m at h)))
        (cases_lt z 32)

pub cap_small : (s x y a w : ℕ) → 0 < s → s < 16777216 → x + y ≡ 149 → w ≡ min (a * 2 ^ min y 55 / s) MOST → BendCap s x a w
cap_small s x y a w S S' n e =
    let all = largest (λ u. s * 2 ^ x * u ≤ a * 2 ^ 149) s (a * 2 ^ min y 55) w S e (λ u l h. to u l (small_of s x y a u n h)) (λ u l h. small_to s x y a u n (from u l h)) in
    record { within = all.0; fits = all.1; greatest = all.2 }
  where
    past : (a u k j : ℕ) → u ≤ MOST → 55 ≤ k → s * u ≤ a * 2 ^ j → s * u ≤ a * 2 ^ k
    past zero u k j l K h = nought s u (0 * 2 ^ k) (no_room s u (2 ^ j) S h)
    past (suc a) u k j l K h = all_past s (suc a) k u S' l (omega arith) K

    to : (u : ℕ) → u ≤ MOST → s * u ≤ a * 2 ^ y → s * u ≤ a * 2 ^ min y 55
    to u l h = ⊎_elim
        (λ (q : y < 55). let m : min y 55 ≡ y = min-eq_left (le_of_lt q) in rw m h)
        (λ (q : 55 ≤ y). let m : min y 55 ≡ 55 = min-eq_right q in rw m (past a u 55 y l (omega arith) h))
        (cases_lt y 55)

    from : (u : ℕ) → u ≤ MOST → s * u ≤ a * 2 ^ min y 55 → s * u ≤ a * 2 ^ y
    from u l h = ⊎_elim
        (λ (q : y < 55). let m : min y 55 ≡ y = min-eq_left (le_of_lt q) in rw m at h)
        (λ (q : 55 ≤ y). past a u y (min y 55) l q h)
        (cases_lt y 55)

pub cap_none : (x a : ℕ) → BendCap 0 x a MOST
cap_none x a = let z : (u : ℕ) → 0 * 2 ^ x * u ≡ 0 = (λ u. ap (λ (k : ℕ). k * u) (zero-mul (2 ^ x)) ∙ zero-mul u) in
    record { within = omega arith; fits = omega (arith, z MOST); greatest = λ u l h. l }
