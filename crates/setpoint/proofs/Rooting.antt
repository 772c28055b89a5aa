-- The root is the greatest number whose square fits, and the only one.
use Rattle.std.proofs.Common.{◌≡◌, ℕ, zero, suc, ◌+◌, ◌*◌, ◌<◌, ◌≤◌, Bool, true, false, cond, leb, refl, ⊎_elim, suc-mul, mul-le-mul, le_antisymm, mul-suc, add-one, arith}
use Rattle.std.proofs.lemmas.Bool.{cases_lt, leb-true, leb-false}
use Rattle.setpoint.specs.Roots.{Root, root}

-- a number whose square fits, while the next one's does not, is the greatest
pub from_next : (w s : ℕ) → s * s ≤ w → w < (s + 1) * (s + 1) → Root w s
from_next w s fits past = record { fits = fits; greatest = λ u h. top u h }
  where
    top : (u : ℕ) → u * u ≤ w → u ≤ s
    top u h = ⊎_elim (λ (l : s < u). absurd (let p : (s + 1) * (s + 1) ≤ u * u = mul-le-mul (omega arith) (omega arith) in omega arith)) (λ l. l) (cases_lt s u)

-- there is only one
pub only : (w s t : ℕ) → Root w s → Root w t → s ≡ t
only w s t a b = le_antisymm (b.greatest s a.fits) (a.greatest t b.fits)

-- what a square has over the square before it
square : (v : ℕ) → suc v * suc v ≡ v * v + 2 * v + 1
square v = let p = suc-mul v (suc v) in let q = mul-suc v v in omega arith

grown : (w s u : ℕ) → Root w s → u * u ≤ suc w → u ≤ suc s
grown w s zero r h = omega arith
grown w s (suc v) r h = let l = r.greatest v (omega (arith, square v)) in omega arith

step : (w s : ℕ) (test : Bool) → leb (suc s * suc s) (suc w) ≡ test → Root w s → Root (suc w) (cond test (suc s) s)
step w s true e r = record { fits = leb-true (suc s * suc s) (suc w) e; greatest = λ u h. grown w s u r h }
step w s false e r =
    let past : suc w < suc s * suc s = leb-false (suc s * suc s) (suc w) e in
    let fits = r.fits in
    from_next (suc w) s (omega arith) (let n : s + 1 ≡ suc s = add-one s in rw n past)

pub root_is : (w : ℕ) → Root w (root w)
unfolding root
root_is zero = from_next 0 0 (omega arith) (omega arith)
root_is (suc w) = step w (root w) (leb (suc (root w) * suc (root w)) (suc w)) refl (root_is w)
