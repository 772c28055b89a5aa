-- The rows asked one by one.
use Rattle.std.proofs.Common.{◌≡◌, ℕ, zero, suc, ◌+◌, ◌<◌, ◌≤◌, true, false, ltb, List, [], ◌∷◌, length, ℤ, ◌≤ℤ◌, Some, None, Option, sym, refl, ap, ◌∙◌, subst, ⊎_elim, arith}
use denote.Param.Members.{Mut, Called}
use Rattle.std.specs.Option.{option_or, option_map, MatchOption, IfSome, IsSomeAnd}
use Rattle.std.specs.declared.ops.Range.{Range}
use Rattle.std.specs.Iterator.Runs.{SomeRun, AllItemsGive, IsFirstToGive}
use Rattle.std.proofs.iter.Yields.{nat_range_steps}
use Rattle.std.proofs.iter.runs.Sources.{range_runs}
use Rattle.std.proofs.lemmas.Int.{ints, clamps}
use Rattle.std.proofs.lemmas.Bool.{cases_lt, cond-true, cond-false, lt-ltb}
use Rattle.grade.specs.Profiles.{Profile}
use Rattle.grade.specs.Ranks.{rank_in}
use Rattle.limit.specs.Numbers.{number_of}
use Rattle.torque.specs.declared.row.Row.{Row}
use Rattle.torque.specs.Rows.{row_at}
use Rattle.motion.specs.Torques.{allows, row_number, least, torque}
use Rattle.binding.specs.declared.bound.Bound.{Bound}
use Rattle.binding.specs.declared.bound.Bound.TheVariants.{TorqueRow}
use Rattle.binding.specs.declared.bound.Found.{Found}
use Rattle.binding.specs.declared.question.Question.{Question}
use Rattle.binding.specs.Bounds.{rows_from}
use Rattle.binding.specs.Questions.{says, judged, first}

-- the least of the rows is at most each
least_under : (f : Row → ℤ) (rows : List Row) (k : ℕ) → k < length rows → least f rows ≤ℤ f (row_at rows k)
least_under f [] k h = absurd (omega arith)
least_under f (r ∷ rows) zero h = omega (arith, ints, clamps)
least_under f (r ∷ rows) (suc k) h = let l = least_under f rows k (omega arith) in omega (arith, ints, clamps)

module _ (q : Question) (f : Bound → ℤ) where
  abbrev row : ℕ → Option Found
  row k = judged q (TorqueRow k) (f (TorqueRow k))

  -- no row at which the answer is yes
  no_row : (k n : ℕ) → ((j : ℕ) → k ≤ j → j < k + n → row j ≡ None) → first q f (rows_from k n) ≡ None
  no_row k zero h = refl
  no_row k (suc n) h = ap (λ (o : Option Found). option_or o (first q f (rows_from (suc k) n))) (h k (omega arith) (omega arith)) ∙ no_row (suc k) n (λ j a b. h j (omega arith) (omega arith))

  -- row i is the first
  row_found : (k n i : ℕ) (x : Found) → k ≤ i → i < k + n → row i ≡ Some x → ((j : ℕ) → k ≤ j → j < i → row j ≡ None) → first q f (rows_from k n) ≡ Some x
  row_found k zero i x a b e h = absurd (omega arith)
  row_found k (suc n) i x a b e h =
      ⊎_elim (λ (l : k < i). ap (λ (o : Option Found). option_or o (first q f (rows_from (suc k) n))) (h k (omega arith) l) ∙ row_found (suc k) n i x (omega arith) (omega arith) e (λ j c d. h j (omega arith) d))
      (λ (l : i ≤ k). let z : k ≡ i = omega arith in ap (λ (o : Option Found). option_or o (first q f (rows_from (suc k) n))) (ap row z ∙ e)) (cases_lt k i)

-- the rows of a torque limit, whose numbers f has
module _ (q : Question) (h : ℕ) (rows : List Row) (p : Profile) (i : ℕ) (f : Bound → ℤ) (is : (k : ℕ) → f (TorqueRow k) ≡ allows h p i (row_at rows k)) where
  -- the answer is no from the least on
  pub scan_none : (z : ℤ) → z ≡ torque h rows p i → ((y : ℤ) → z ≤ℤ y → says q y ≡ false) → None ≡ first q f (rows_from 0 (length rows))
  scan_none z e past =
      sym (no_row q f 0 (length rows) (λ j a b. cond-false (says q (f (TorqueRow j))) _ _ (past (f (TorqueRow j))
      (let l = least_under (allows h p i) rows j (omega arith) in let w = is j in omega (arith, ints)))))

  -- what the closure of a search says of a row, c being the closure
  module _ {F : Type 0} (g : Mut F (ℕ × Unit {0}) (Option Found)) (c : F)
      (computes : (k : ℕ) (r : Option Found) (d : F) → Called g c (k, tt) r d → (d ≡ c) × (r ≡ judged q (TorqueRow k) (row_number h rows k p i))) where
    asked : (k : ℕ) (r : Option Found) → k < length rows → Called g c (k, tt) r c → row q f k ≡ r
    asked k r l a = ap (judged q (TorqueRow k)) (is k ∙ sym (cond-true (ltb k (length rows)) (allows h p i (row_at rows k)) _ (lt-ltb k (length rows) l))) ∙ sym (computes k r c a).1

    keeps : (a : ℕ × Unit {0}) (r : Option Found) (d : F) → Called g c a r d → d ≡ c
    keeps a r d b = (computes a.0 r d b).0

    identity : (o : Option ℕ) → option_map (λ (y : ℕ). y) o ≡ o
    identity None = refl
    identity (Some x) = refl

    -- what the search finds over the rows' numbers
    pub scanned : (s : Range ℕ) → s.start ≡ 0 → s.end ≡ length rows → (r : Option Found)
        → SomeRun nat_range_steps s (λ t. MatchOption r ((t.whole ≡ true) × AllItemsGive t g c None) (λ y. (k : ℕ) × (k < t.len) × (t.len ≡ k + 1) × IsFirstToGive t g c (Some y) None k))
        → r ≡ first q f (rows_from 0 (length rows))
    scanned s s0 sn None (t, e, (w, all)) =
        let up = range_runs t t.seen in
        let a : t.from.start ≡ 0 = ap (λ (x : Range ℕ). x.start) e ∙ s0 in
        let b : t.from.end ≡ length rows = ap (λ (x : Range ℕ). x.end) e ∙ sn in
        sym (no_row q f 0 (length rows) (λ k x y.
        let l : k < t.len = omega (arith, up.1 w) in
        let n : t.at k ≡ Some k = sym (identity (t.at k)) ∙ up.3 k l ∙ (let z : t.from.start + k ≡ k = omega arith in ap Some z) in
        asked k None (omega arith) (subst (λ o. IfSome o (λ v. Called g c (v, tt) None c)) n (all keeps k))))
    scanned s s0 sn (Some y) (t, e, (k, l, one, hit)) =
        let up = range_runs t t.seen in
        let a : t.from.start ≡ 0 = ap (λ (x : Range ℕ). x.start) e ∙ s0 in
        let b : t.from.end ≡ length rows = ap (λ (x : Range ℕ). x.end) e ∙ sn in
        let n : (j : ℕ) → j < t.len → t.at j ≡ Some j = λ j m. sym (identity (t.at j)) ∙ up.3 j m ∙ (let z : t.from.start + j ≡ j = omega arith in ap Some z) in
        sym (row_found q f 0 (length rows) k y (omega arith) (omega (arith, up.0))
        (asked k (Some y) (omega (arith, up.0)) (subst (λ o. IsSomeAnd o (λ v. Called g c (v, tt) (Some y) c)) (n k l) (hit keeps).0))
        (λ j x m. asked j None (omega (arith, up.0)) (subst (λ o. IsSomeAnd o (λ v. Called g c (v, tt) None c)) (n j (omega arith)) ((hit keeps).1 j m))))

-- the number of a rank that may be missing
pub number_rank : {G : Type 0} (rank : G → ℕ) (o : Option G) → number_of (λ (n : ℕ). n) (rank_in rank o) ≡ number_of rank o
number_rank rank None = refl
number_rank rank (Some x) = refl
