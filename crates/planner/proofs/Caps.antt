-- The cap that a clause gives is one number, and a rank.
use Rattle.std.proofs.Common.{◌≡◌, ℕ, zero, suc, ◌≤◌, min, Bool, true, false, cond, eqb, leb, Ok, sym, refl, ap, ◌∙◌, arith}
use Rattle.std.proofs.lemmas.Bool.{leb-true, le-leb, eqb-true, eqb-false, cond-true, cond-false}
use Rattle.caps.specs.Caps.{SpeedCap, BendCap}
use Rattle.caps.specs.Floats.{bits_of, finite_bits, significand, shift}
use Rattle.clause.specs.declared.clause.CapClause.{CapClause}
use Rattle.clause.specs.declared.clause.CapClause.TheVariants.{Free, Straight, Bend, Fixed}
use Rattle.clause.specs.declared.clause.ClauseWords.{ClauseWords}
use Rattle.clause.specs.declared.clause.ClauseFault.{ClauseFault}
use Rattle.clause.specs.declared.clause.ClauseFault.TheVariants.{CurvatureNotFinite, FixedTooGreat, FirstNotZero, SecondNotZero}
use Rattle.clause.specs.Clauses.{ClauseCap, clause_read, speed_read}
use Rattle.clause.proofs.Questions.{passed, passed_within, chosen}
use Rattle.grade.specs.Tops.{speed_top}
use Rattle.planner.specs.Starts.{greatest, straight_cap, bend_cap_of, clause_cap}

-- the greatest number up to n that a test lets through is one number
module _ (test : ℕ → Bool) where
  -- by what the test says of the top
  at_top : (n w : ℕ) (b : Bool) → test (suc n) ≡ b → w ≤ suc n → test w ≡ true → ((u : ℕ) → u ≤ suc n → test u ≡ true → u ≤ w) → (w ≤ n → greatest test n ≡ w) → cond (test (suc n)) (suc n) (greatest test n) ≡ w
  at_top n w true is l t g rest = cond-true (test (suc n)) (suc n) (greatest test n) is ∙ (let m = g (suc n) (omega arith) is in omega arith)
  at_top n w false is l t g rest = cond-false (test (suc n)) (suc n) (greatest test n) is ∙ rest (low (eqb w (suc n)) refl)
    where
      low : (b : Bool) → eqb w (suc n) ≡ b → w ≤ n
      low true e = absurd (let z : true ≡ false = sym t ∙ ap test (eqb-true w (suc n) e) ∙ is in let y : ◌≡◌ {A = ℕ} 0 1 = cc in omega arith)
      low false e = (let d = eqb-false w (suc n) e in omega arith)

  pub is_greatest : (n w : ℕ) → w ≤ n → test w ≡ true → ((u : ℕ) → u ≤ n → test u ≡ true → u ≤ w) → greatest test n ≡ w
  unfolding greatest
  is_greatest zero w l t g = omega arith
  is_greatest (suc n) w l t g = at_top n w (test (suc n)) refl l t g (λ m. is_greatest n w m t (λ u k e. g u (omega arith) e))

straight_is : (b w : ℕ) → SpeedCap b w → straight_cap b ≡ w
straight_is b w c = is_greatest _ speed_top w c.within (le-leb _ _ c.fits) (λ u l e. c.greatest u l (leb-true _ _ e))

bend_is : (b a w : ℕ) → BendCap (significand b) (shift b) a w → bend_cap_of b a ≡ w
bend_is b a w c = is_greatest _ speed_top w c.within (le-leb _ _ c.fits) (λ u l e. c.greatest u l (leb-true _ _ e))

pub clause_cap_lem : (c : CapClause) (a w : ℕ) → ClauseCap c a w → w ≡ clause_cap a c
clause_cap_lem Free a w e = e
clause_cap_lem (Straight v) a w e = sym (straight_is (bits_of v) w e)
clause_cap_lem (Bend b) a w (u, k, s, m, is) = is ∙ ap (λ (x : ℕ). min x k) (sym (straight_is _ u s)) ∙ ap (λ (x : ℕ). min (straight_cap (bits_of b.top_speed)) x) (sym (bend_is _ a k m))
clause_cap_lem (Fixed n) a w e = e

pub cap_within : (c : CapClause) (a w : ℕ) → ((n : ℕ) → c ≡ Fixed n → n ≤ speed_top) → ClauseCap c a w → w ≤ speed_top
cap_within Free a w f e = omega arith
cap_within (Straight v) a w f e = e.within
cap_within (Bend b) a w f (u, k, s, m, is) = let l = s.within in omega arith
cap_within (Fixed n) a w f e = let l = f n refl in omega arith

-- a fixed cap that was read is a rank
pub fixed_within : (w : ClauseWords) (n : ℕ) → clause_read w ≡ Ok (Fixed n) → n ≤ speed_top
fixed_within w n e =
    chosen (eqb w.kind 0) _ _ (Ok (Fixed n)) (n ≤ speed_top) e
    (λ _ x. let a = passed (eqb w.first 0) FirstNotZero _ (Fixed n) x in let b = passed (eqb w.second 0) SecondNotZero _ (Fixed n) a.1 in (let z : ◌≡◌ {A = ℕ} 0 1 = (let y = b.1 in cc) in absurd (omega arith)))
    (λ _ x. chosen (eqb w.kind 1) _ _ (Ok (Fixed n)) (n ≤ speed_top) x
    (λ _ y. let a = passed_within (λ (f : ClauseFault). f) (speed_read w.first) _ (Fixed n) y in let b = passed (eqb w.second 0) SecondNotZero _ (Fixed n) a.2 in (let z : ◌≡◌ {A = ℕ} 0 1 = (let y = b.1 in cc) in absurd (omega arith)))
    (λ _ y. chosen (eqb w.kind 2) _ _ (Ok (Fixed n)) (n ≤ speed_top) y
    (λ _ k. let a = passed_within (λ (f : ClauseFault). f) (speed_read w.first) _ (Fixed n) k in let b = passed (finite_bits w.second) CurvatureNotFinite _ (Fixed n) a.2 in (let z : ◌≡◌ {A = ℕ} 0 1 = (let y = b.1 in cc) in absurd (omega arith)))
    (λ _ k. let a = passed (leb w.first 2147483647) FixedTooGreat _ (Fixed n) k in let b = passed (eqb w.second 0) SecondNotZero _ (Fixed n) a.1 in
    (let l = leb-true w.first 2147483647 a.0 in let z : w.first ≡ n = (let y = b.1 in cc) in omega arith))))
