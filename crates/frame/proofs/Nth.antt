-- The record of a number, and the records from it on.
use Rattle.std.proofs.Common.{◌≡◌, ℕ, zero, suc, ◌<◌, List, [], ◌∷◌, length, drop, Some, None, refl, ap, arith}
use Rattle.frame.specs.Views.{nth}

pub nth_below : {A : Type 0} (xs : List A) (i : ℕ) (x : A) → nth xs i ≡ Some x → i < length xs
nth_below [] i x e = absurd (let z : ◌≡◌ {A = ℕ} 0 1 = cc in omega arith)
nth_below (y ∷ xs) zero x e = omega arith
nth_below (y ∷ xs) (suc i) x e = let l = nth_below xs i x e in omega arith

pub nth_next : {A : Type 0} (xs : List A) (i : ℕ) (x : A) → nth xs i ≡ Some x → drop i xs ≡ x ∷ drop (suc i) xs
nth_next [] i x e = absurd (let z : ◌≡◌ {A = ℕ} 0 1 = cc in omega arith)
nth_next {A = A} (y ∷ xs) zero x e = let is : y ≡ x = cc in ap (λ (z : A). z ∷ xs) is
nth_next (y ∷ xs) (suc i) x e = nth_next xs i x e

pub nth_none : {A : Type 0} (xs : List A) (i : ℕ) → nth xs i ≡ None → drop i xs ≡ []
nth_none [] zero e = refl
nth_none [] (suc i) e = refl
nth_none (y ∷ xs) zero e = absurd (let z : ◌≡◌ {A = ℕ} 0 1 = cc in omega arith)
nth_none (y ∷ xs) (suc i) e = nth_none xs i e
