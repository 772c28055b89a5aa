-- Where a counted loop over two slices stands.
use Rattle.std.proofs.Common.{◌≡◌, ℕ, ◌<◌, List, length, get_or, Some, None, Option, min, ap, ◌∙◌, arith}
use denote.Ref.{Bor}
use Rattle.std.specs.declared.iter.Enumerate.{Enumerate}
use Rattle.std.specs.declared.iter.Zip.{Zip}
use Rattle.std.specs.declared.slice.Iter.{Iter}
use Rattle.std.specs.Iterator.{Yields}
use Rattle.std.specs.Iterator.Adapters.{enumerate_source, enumerate_count, enumerate_steps, zip_first, zip_second}
use Rattle.std.specs.List.{zip, enumerate_from}
use Rattle.std.specs.Slice.Iter.{iter_rest}
use Rattle.std.proofs.iter.Yields.{fronts}
use Rattle.std.proofs.lemmas.Iterator.{YieldsList, YieldsList-from_slice, YieldsList-from_zip, zips}
use Rattle.std.proofs.lemmas.Iterator.Consumers.{YieldsList-from_enumerate, YieldsList-turn, YieldsList-end}
use Rattle.std.proofs.lemmas.List.FromFn.{length-enumerate_from, get_or-enumerate_from}
use Rattle.std.proofs.lemmas.Slice.Zip.{length-zip, get_or-zip}

module _ {A B : Type 0} (xs : List A) (ys : List B) (s : Enumerate (Zip (Iter A) (Iter B))) (first : iter_rest (zip_first (enumerate_source s)) ≡ xs) (second : iter_rest (zip_second (enumerate_source s)) ≡ ys) (begun : enumerate_count s ≡ 0) where
  listed : YieldsList (enumerate_steps (zips fronts fronts)) (λ p. (p.0, (p.1.0.now, p.1.1.now))) s (enumerate_from 0 (zip xs ys))
  listed = YieldsList-from_enumerate (YieldsList-from_zip (YieldsList-from_slice xs first) (YieldsList-from_slice ys second)) begun

  long : length (enumerate_from 0 (zip xs ys)) ≡ min (length xs) (length ys)
  long = length-enumerate_from 0 (zip xs ys) ∙ length-zip xs ys

  -- in a turn, its number and its elements
  pub turned : (zs : List (ℕ × (Bor A × Bor B))) (t : Enumerate (Zip (Iter A) (Iter B))) → Yields (enumerate_steps (zips fronts fronts)) s zs t
      → (r : Option (ℕ × (Bor A × Bor B))) (u : Enumerate (Zip (Iter A) (Iter B))) (p : ℕ × (Bor A × Bor B)) → r ≡ Some p → enumerate_steps (zips fronts fronts) t r u
      → (p.0 ≡ length zs) × (length zs < length xs) × (length zs < length ys) × (p.1.0.now ≡ get_or xs (length zs) p.1.0.now) × (p.1.1.now ≡ get_or ys (length zs) p.1.1.now)
  turned zs t y r u p e step =
      let h = YieldsList-turn listed zs t y r u p e step in
      let n : length zs < min (length xs) (length ys) = omega (arith, long) in
      let i : length zs < length (zip xs ys) = omega (arith, length-zip xs ys) in
      let at = h.1 ∙ get_or-enumerate_from 0 (zip xs ys) (length zs) (p.0, (p.1.0.now, p.1.1.now)) i in
      let both = ap (λ q. q.1) at ∙ get_or-zip xs ys (length zs) (p.1.0.now, p.1.1.now) (omega arith) (omega arith) in
      (omega (arith, ap (λ q. q.0) at), omega arith, omega arith, ap (λ q. q.0) both, ap (λ q. q.1) both)

  -- after the last one
  pub ended : (zs : List (ℕ × (Bor A × Bor B))) (t : Enumerate (Zip (Iter A) (Iter B))) → Yields (enumerate_steps (zips fronts fronts)) s zs t
      → (r : Option (ℕ × (Bor A × Bor B))) (u : Enumerate (Zip (Iter A) (Iter B))) → r ≡ None → enumerate_steps (zips fronts fronts) t r u → length zs ≡ min (length xs) (length ys)
  ended zs t y r u e step = (YieldsList-end listed zs t y r u e step).1 ∙ long
