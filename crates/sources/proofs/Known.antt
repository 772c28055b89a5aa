-- A record that is there, in the list that a limit reads.
use Rattle.std.proofs.Common.{◌≡◌, ℕ, zero, suc, List, [], ◌∷◌, map, get_or, ℤ, pos, Some, ap, arith}
use Rattle.record.specs.declared.sample.Sample.{Sample}
use Rattle.frame.specs.Views.{nth, offset_in}

pub mapped_at : {A B : Type 0} (f : A → B) (xs : List A) (i : ℕ) (d : B) (x : A) → Some x ≡ nth xs i → f x ≡ get_or (map f xs) i d
mapped_at f [] i d x e = absurd (let z : ◌≡◌ {A = ℕ} 0 1 = cc in omega arith)
mapped_at f (y ∷ ys) zero d x e = let is : x ≡ y = (let z = e in cc) in ap f is
mapped_at f (y ∷ ys) (suc i) d x e = mapped_at f ys i d x e

pub offset_at : (xs : List Sample) (i : ℕ) (q : ℤ) → Some q ≡ offset_in (nth xs i) → q ≡ get_or (map (λ (s : Sample). s.q) xs) i (pos 0)
offset_at [] i q e = absurd (let z : ◌≡◌ {A = ℕ} 0 1 = cc in omega arith)
offset_at (y ∷ ys) zero q e = (let z = e in cc)
offset_at (y ∷ ys) (suc i) q e = offset_at ys i q e
