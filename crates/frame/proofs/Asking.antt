-- Records asked one after another: one record on, and what an answer for all tells of each.
use Rattle.std.proofs.Common.{◌≡◌, ℕ, zero, suc, ◌+◌, ◌-◌, ◌<◌, true, List, [], ◌∷◌, length, get_or, is_ok, Ok, Err, Result, sym, refl, true≢false, ap, ◌∙◌, subst, arith}
use Rattle.record.specs.declared.fault.RecordFault.{RecordFault}
use Rattle.clause.specs.Asking.{within}
use Rattle.clause.proofs.Questions.{passed_within}
use Rattle.frame.specs.Records.{fault, records_read, done}

same_done : {T F : Type 0} (x : T) (r : Result (List T) (RecordFault F)) → done (within (λ f. f) r (λ xs. Ok (x ∷ xs))) ≡ done r
same_done x (Ok xs) = refl
same_done x (Err f) = refl

module _ {T F : Type 0} (place : ℕ → ℕ) (read : ℕ → Result T F) (n i : ℕ) (h : i < n) where
  step : records_read place read (n - i) i ≡ within (fault place i) (read i) (λ x. within (λ f. f) (records_read place read (n - (i + 1)) (i + 1)) (λ xs. Ok (x ∷ xs)))
  step = let e : n - i ≡ suc (n - (i + 1)) = omega arith in rw e refl

  pub at_err : (f : F) → read i ≡ Err f → done (records_read place read (n - i) i) ≡ Err (fault place i f)
  at_err f e = ap done (step ∙ ap (λ (r : Result T F). within (fault place i) r (λ x. within (λ f. f) (records_read place read (n - (i + 1)) (i + 1)) (λ xs. Ok (x ∷ xs)))) e)

  at_ok : (r : Result T F) → read i ≡ r → is_ok r ≡ true → done (records_read place read (n - i) i) ≡ done (records_read place read (n - (i + 1)) (i + 1))
  at_ok (Ok x) e y =
      ap done (step ∙ ap (λ (r : Result T F). within (fault place i) r (λ x. within (λ f. f) (records_read place read (n - (i + 1)) (i + 1)) (λ xs. Ok (x ∷ xs)))) e)
      ∙ same_done x (records_read place read (n - (i + 1)) (i + 1))
  at_ok (Err f) e y = absurd (true≢false (sym y))

  pub at_yes : is_ok (read i) ≡ true → done (records_read place read (n - i) i) ≡ done (records_read place read (n - (i + 1)) (i + 1))
  at_yes y = at_ok (read i) refl y

-- ---- what an answer for all tells of each

pub record Answered {T F : Type 0} (read : ℕ → Result T F) (k i : ℕ) (xs : List T) : Type 0 where
  pub counted : length xs ≡ k
  pub each : (d : T) (j : ℕ) → j < k → read (i + j) ≡ Ok (get_or xs j d)

each_behind : {T F : Type 0} (read : ℕ → Result T F) (k i : ℕ) (x : T) (xs : List T) → read i ≡ Ok x → ((d : T) (j : ℕ) → j < k → read (i + 1 + j) ≡ Ok (get_or xs j d))
    → (d : T) (j : ℕ) → j < suc k → read (i + j) ≡ Ok (get_or (x ∷ xs) j d)
each_behind read k i x xs e f d zero l = let z : i + 0 ≡ i = omega arith in ap read z ∙ e
each_behind read k i x xs e f d (suc j) l = let z : i + suc j ≡ i + 1 + j = omega arith in ap read z ∙ f d j (omega arith)

pub answered : {T F : Type 0} (place : ℕ → ℕ) (read : ℕ → Result T F) (k i : ℕ) (xs : List T) → records_read place read k i ≡ Ok xs → Answered read k i xs
answered place read zero i [] e = record { counted = refl; each = λ d j l. absurd (omega arith) }
answered place read zero i (x ∷ xs) e = absurd (let z : ◌≡◌ {A = ℕ} 0 1 = cc in omega arith)
answered {T = T} {F = F} place read (suc k) i xs e =
    let p = passed_within (fault place i) (read i) _ xs e in
    let q = passed_within (λ (f : RecordFault F). f) (records_read place read k (i + 1)) _ xs p.2 in
    let is : p.0 ∷ q.0 ≡ xs = (let z = q.2 in cc) in
    let r = answered place read k (i + 1) q.0 q.1 in
    subst (Answered read (suc k) i) is (record { counted = ap suc r.counted; each = each_behind read k i p.0 q.0 p.1 r.each })
