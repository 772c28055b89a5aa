-- An `f32` by its pattern, and an exact product, as fractions of whole numbers.
use Rattle.std.proofs.Common.{◌≡◌, ℕ, zero, suc, ◌+◌, ◌-◌, ◌*◌, ◌/◌, ◌^◌, ◌<◌, min, Bool, false, cond, not, ◌&&◌, T, eqb, leb, sym, ap, ◌∙◌, subst, mul-pos, arith}
use native.Mathlib.Nat.{mul-mul-mul_comm}
use lib.Ieee.{Float, nan, inf, fin, Format, binary32, binary64, prec, emax, low, up, down, round, mul, unlike, of_fields, of_bits, to_unsigned, fits, is_nan}
use lib.Ieee.Bits.{of_bits-to_bits}
use lib.Ieee.Fits.{down_pos, and_i, fits_widens}
use lib.Ieee.Exact.{HasValue, odd_sign, round_exact}
use lib.Ieee.Scale.{round_same}
use lib.Ieee.Nearest.{div_same}
use Rattle.std.proofs.lemmas.Bool.{ne_eqb}
use Rattle.caps.specs.Floats.{bits_of, exponent, fraction, significand, shift}

-- ---- what the fields stand for
of_fields_lem : (s : Bool) (x t : ℕ) → x < 255 → HasValue (of_fields binary32 s x t) s (cond (eqb x 0) t (2 ^ 23 + t) * 2 ^ (x - 1)) (2 ^ 149)
unfolding of_fields
of_fields_lem s zero t h = odd_sign 24 s t 0 149
of_fields_lem s (suc x) t h =
    let e : suc x - 1 ≡ x = omega arith in
    let n : eqb (suc x) 255 ≡ false = ne_eqb (suc x) 255 (λ q. omega arith) in
    let z : eqb (suc x) 0 ≡ false = ne_eqb (suc x) 0 (λ q. omega arith) in
    rw (n, z, e) (odd_sign 24 s (2 ^ 23 + t) x 149)

of_bits_lem : (b : ℕ) → exponent b < 255 → HasValue (of_bits binary32 b) (leb (2 ^ 31) b) (significand b * 2 ^ shift b) (2 ^ 149)
unfolding of_bits
of_bits_lem b h = of_fields_lem (leb (2 ^ 31) b) (exponent b) (fraction b) h

pub of_float : (v : Float) → T (fits binary32 v) → exponent (bits_of v) < 255 → HasValue v (leb (2 ^ 31) (bits_of v)) (significand (bits_of v) * 2 ^ shift (bits_of v)) (2 ^ 149)
of_float v f h =
    let b = bits_of v in
    subst (λ (x : Float). HasValue x (leb (2 ^ 31) b) (significand b * 2 ^ shift b) (2 ^ 149)) (of_bits-to_bits binary32 v f) (of_bits_lem b h)

-- ---- a product, by any fractions that the factors equal
pub mul_at : (f : Format) (x y : Float) (s t : Bool) (a c b d : ℕ) → 0 < c → 0 < d → HasValue x s a c → HasValue y t b d → mul f x y ≡ round f (unlike s t) (a * b) (c * d)
unfolding mul
mul_at f nan y s t a c b d C D h k = absurd h
mul_at f (inf p) y s t a c b d C D h k = absurd h
mul_at f (fin p m e) nan s t a c b d C D h k = absurd k
mul_at f (fin p m e) (inf q) s t a c b d C D h k = absurd k
mul_at f (fin p m e) (fin q n g) s t a c b d C D h k =
    ap (λ (z : Bool). round f (unlike z q) (m * up e * (n * up g)) (down e * down g)) h.0
    ∙ ap (λ (z : Bool). round f (unlike s z) (m * up e * (n * up g)) (down e * down g)) k.0
    ∙ round_same f (unlike s t) (m * up e * (n * up g)) (down e * down g) (a * b) (c * d) (mul-pos (down_pos e) (down_pos g)) (mul-pos C D)
    (mul-mul-mul_comm (m * up e) (n * up g) c d ∙ ap (λ (z : ℕ). z * (n * up g * d)) h.1 ∙ ap (λ (z : ℕ). a * down e * z) k.1 ∙ mul-mul-mul_comm a (down e) b (down g))

-- an exact product: a * b / (c * d) is q * 2 ^ j of the format's smallest values
pub mul_exact : (f : Format) (x y : Float) (s t : Bool) (a c b d q j : ℕ) → 0 < c → 0 < d → HasValue x s a c → HasValue y t b d
    → q < 2 ^ prec f → q * 2 ^ j < 2 ^ (low f + suc (emax f)) → a * b * 2 ^ low f ≡ q * 2 ^ j * (c * d) → HasValue (mul f x y) (unlike s t) (a * b) (c * d)
mul_exact f x y s t a c b d q j C D h k small fine e =
    subst (λ (z : Float). HasValue z (unlike s t) (a * b) (c * d)) (sym (mul_at f x y s t a c b d C D h k)) (round_exact f (unlike s t) (a * b) (c * d) q j (mul-pos C D) small fine e)

-- ---- a value that is not negative, cut to a whole number
pub cut : (w : ℕ) (x : Float) (a c : ℕ) → 0 < c → HasValue x false a c → to_unsigned w x ≡ min (a / c) (2 ^ w - 1)
unfolding to_unsigned
cut w nan a c C h = absurd h
cut w (inf s) a c C h = absurd h
cut w (fin s m e) a c C h =
    ap (λ (z : Bool). cond z 0 (min (m * up e / down e) (2 ^ w - 1))) h.0
    ∙ ap (λ (z : ℕ). min z (2 ^ w - 1)) (div_same (m * up e) (down e) a c (down_pos e) C h.1)

-- ---- what the cast to `f64` asks
number : (x : Float) (s : Bool) (a c : ℕ) → HasValue x s a c → T (not (is_nan x))
unfolding is_nan
number nan s a c h = h
number (inf t) s a c h = tt
number (fin t m e) s a c h = tt

pub widens : (v : Float) → T (fits binary32 v) → exponent (bits_of v) < 255 → T (fits binary64 v && not (is_nan v))
widens v f h = and_i (fits binary64 v) (not (is_nan v)) (fits_widens v f) (number v _ _ _ (of_float v f h))
