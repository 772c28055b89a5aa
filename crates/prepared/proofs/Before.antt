-- How many rows lie at gaps before one: where rows lie by gap, that is the first row whose gap is not before it.
use Rattle.std.proofs.Common.{◌≡◌, ℕ, zero, suc, ◌+◌, ◌<◌, ◌≤◌, cond, nat_lt, List, [], ◌∷◌, length, refl, arith, inl, inr}
use Rattle.std.proofs.lemmas.Bool.{cases_lt}
use Rattle.std.proofs.lemmas.Bool.Decides.{nat_tests}
use Rattle.std.proofs.lemmas.List.Sums.{count_by-le-length, sum_by-cons}
use Rattle.torque.specs.declared.row.Row.{Row}
use Rattle.torque.specs.Rows.{row_at, SoundRows}
use Rattle.prepared.specs.Lists.{rows_before}

pub before_few : (g : ℕ) (rows : List Row) → rows_before g rows ≤ length rows
unfolding rows_before
before_few g rows = count_by-le-length _ rows

cons : (g : ℕ) (r : Row) (rows : List Row) → rows_before g (r ∷ rows) ≡ cond (nat_lt r.gap g) 1 0 + rows_before g rows
unfolding rows_before
cons g r rows = sum_by-cons (λ (x : Row). cond (nat_lt x.gap g) 1 0) r rows

one : (g n : ℕ) → n < g → ◌≡◌ {A = ℕ} (cond (nat_lt n g) 1 0) 1
one g n l = grind (arith, nat_tests)

no_one : (g n : ℕ) → g ≤ n → ◌≡◌ {A = ℕ} (cond (nat_lt n g) 1 0) 0
no_one g n l = grind (arith, nat_tests)

most : (g n : ℕ) → cond (nat_lt n g) 1 0 ≤ 1
most g n = grind (arith, nat_tests)

grows : (g n : ℕ) → cond (nat_lt n g) 1 0 ≤ cond (nat_lt n (g + 1)) 1 0
grows g n = grind (arith, nat_tests)

head : (g : ℕ) (r : Row) (rows : List Row) → r.gap < g → rows_before g (r ∷ rows) ≡ suc (rows_before g rows)
head g r rows l = omega (arith, cons g r rows, one g r.gap l)

head_not : (g : ℕ) (r : Row) (rows : List Row) → g ≤ r.gap → rows_before g (r ∷ rows) ≡ rows_before g rows
head_not g r rows l = omega (arith, cons g r rows, no_one g r.gap l)

head_most : (g : ℕ) (r : Row) (rows : List Row) → rows_before g (r ∷ rows) ≤ suc (rows_before g rows)
head_most g r rows = omega (arith, cons g r rows, most g r.gap)

pub before_grows : (g : ℕ) (rows : List Row) → rows_before g rows ≤ rows_before (g + 1) rows
unfolding rows_before
before_grows g [] = omega arith
before_grows g (r ∷ rows) = omega (arith, cons g r rows, cons (g + 1) r rows, grows g r.gap, before_grows g rows)

none : (g : ℕ) (rows : List Row) → ((k : ℕ) → k < length rows → g ≤ (row_at rows k).gap) → rows_before g rows ≡ 0
unfolding rows_before
none g [] h = refl
none g (r ∷ rows) h = omega (arith, head_not g r rows (h 0 (omega arith)), none g rows (λ k l. h (suc k) (omega arith)))

abbrev Rising : List Row → Type 0
Rising rows = (j k : ℕ) → j ≤ k → k < length rows → (row_at rows j).gap ≤ (row_at rows k).gap

yes : (g : ℕ) (rows : List Row) → Rising rows → (k : ℕ) → k < length rows → (row_at rows k).gap < g → k < rows_before g rows
yes g [] u k l h = absurd (omega arith)
yes g (r ∷ rows) u zero l h = omega (arith, head g r rows h)
yes g (r ∷ rows) u (suc k) l h =
    let m = u 0 (suc k) (omega arith) l in
    omega (arith, head g r rows (omega arith), yes g rows (λ i j a b. u (suc i) (suc j) (omega arith) (omega arith)) k (omega arith) h)

no : (g : ℕ) (rows : List Row) → Rising rows → (k : ℕ) → k < length rows → g ≤ (row_at rows k).gap → rows_before g rows ≤ k
no g [] u k l h = absurd (omega arith)
no g (r ∷ rows) u zero l h = omega (arith, none g (r ∷ rows) (λ k m. let n = u 0 k (omega arith) m in omega arith))
no g (r ∷ rows) u (suc k) l h = omega (arith, head_most g r rows, no g rows (λ i j a b. u (suc i) (suc j) (omega arith) (omega arith)) k (omega arith) h)

module _ (h g : ℕ) (rows : List Row) (s : SoundRows h rows) (k : ℕ) (l : k < length rows) where
  -- a row at a gap before is one of them, and one that is not has none past it that is
  pub before_yes : (row_at rows k).gap < g → k < rows_before g rows
  before_yes = yes g rows s.rising k l

  pub before_no : g ≤ (row_at rows k).gap → rows_before g rows ≤ k
  before_no = no g rows s.rising k l

  -- the other way about
  pub before_lower : k < rows_before g rows → (row_at rows k).gap < g
  before_lower m = elim (cases_lt (row_at rows k).gap g) [ inl a ↦ a | inr a ↦ absurd (omega (arith, before_no a)) ]

  pub before_upper : rows_before g rows ≤ k → g ≤ (row_at rows k).gap
  before_upper m = elim (cases_lt (row_at rows k).gap g) [ inl a ↦ absurd (omega (arith, before_yes a)) | inr a ↦ a ]
