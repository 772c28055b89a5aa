-- A clause that was read is written as the words that it was read from.
use Rattle.std.proofs.Common.{◌≡◌, ℕ, ◌^◌, ◌<◌, ◌≤◌, not, eqb, leb, Ok, sym, refl, ap, ◌∙◌, arith}
use lib.Ieee.{Float, of_bits, binary32}
use Rattle.std.proofs.lemmas.Bool.{eqb-true, eqb-false}
use Rattle.caps.specs.Floats.{bits_of, finite_bits}
use Rattle.clause.specs.declared.clause.ClauseWords.{ClauseWords}
use Rattle.clause.specs.declared.clause.CapClause.{CapClause}
use Rattle.clause.specs.declared.clause.CapClause.TheVariants.{Free, Straight, Fixed}
use Rattle.clause.specs.declared.clause.ClauseFault.{ClauseFault}
use Rattle.clause.specs.declared.clause.ClauseFault.TheVariants.{TopSpeedNotFinite, TopSpeedNegative, CurvatureNotFinite, FixedTooGreat, FirstNotZero, SecondNotZero}
use Rattle.clause.specs.Asking.{ask, within}
use Rattle.clause.specs.Clauses.{negative_bits, speed_read, clause_read, clause_words, Legal, bend}
use Rattle.clause.proofs.Patterns.{back}
use Rattle.clause.proofs.Questions.{passed, passed_within, chosen}

-- a top speed that was read has the pattern that it was read from
speed_back : (b : ℕ) (v : Float) → b < 2 ^ 32 → speed_read b ≡ Ok v → bits_of v ≡ b
speed_back b v h e =
    let p = passed (finite_bits b) TopSpeedNotFinite _ v e in
    let q = passed (not (negative_bits b)) TopSpeedNegative _ v p.1 in
    let s : of_bits binary32 b ≡ v = (let z = q.1 in cc) in
    ap bits_of (sym s) ∙ back b h p.0

words_are : (w : ClauseWords) (k a b : ℕ) → k ≡ w.kind → a ≡ w.first → b ≡ w.second → ◌≡◌ {A = ClauseWords} (record { kind = k; first = a; second = b }) w
words_are w k a b p q r = λ i. record { kind = p i; first = q i; second = r i }

module _ (w : ClauseWords) (c : CapClause) (first : w.first < 2 ^ 32) (second : w.second < 2 ^ 32) where
  free : w.kind ≡ 0 → ask (eqb w.first 0) FirstNotZero (ask (eqb w.second 0) SecondNotZero (Ok Free)) ≡ Ok c → clause_words c ≡ w
  free k e =
      let p = passed (eqb w.first 0) FirstNotZero _ c e in
      let q = passed (eqb w.second 0) SecondNotZero _ c p.1 in
      let is : Free ≡ c = (let z = q.1 in cc) in
      ap clause_words (sym is) ∙ words_are w 0 0 0 (sym k) (sym (eqb-true w.first 0 p.0)) (sym (eqb-true w.second 0 q.0))

  straight : w.kind ≡ 1 → within (λ (f : ClauseFault). f) (speed_read w.first) (λ v. ask (eqb w.second 0) SecondNotZero (Ok (Straight v))) ≡ Ok c → clause_words c ≡ w
  straight k e =
      let p = passed_within (λ (f : ClauseFault). f) (speed_read w.first) _ c e in
      let q = passed (eqb w.second 0) SecondNotZero _ c p.2 in
      let is : Straight p.0 ≡ c = (let z = q.1 in cc) in
      ap clause_words (sym is) ∙ words_are w 1 (bits_of p.0) 0 (sym k) (speed_back w.first p.0 first p.1) (sym (eqb-true w.second 0 q.0))

  bent : w.kind ≡ 2 → within (λ (f : ClauseFault). f) (speed_read w.first) (λ v. ask (finite_bits w.second) CurvatureNotFinite (Ok (bend v (of_bits binary32 w.second)))) ≡ Ok c → clause_words c ≡ w
  bent k e =
      let p = passed_within (λ (f : ClauseFault). f) (speed_read w.first) _ c e in
      let q = passed (finite_bits w.second) CurvatureNotFinite _ c p.2 in
      let is : bend p.0 (of_bits binary32 w.second) ≡ c = (let z = q.1 in cc) in
      ap clause_words (sym is) ∙ words_are w 2 (bits_of p.0) (bits_of (of_bits binary32 w.second)) (sym k) (speed_back w.first p.0 first p.1) (back w.second second q.0)

  fixed : w.kind ≡ 3 → ask (leb w.first 2147483647) FixedTooGreat (ask (eqb w.second 0) SecondNotZero (Ok (Fixed w.first))) ≡ Ok c → clause_words c ≡ w
  fixed k e =
      let p = passed (leb w.first 2147483647) FixedTooGreat _ c e in
      let q = passed (eqb w.second 0) SecondNotZero _ c p.1 in
      let is : Fixed w.first ≡ c = (let z = q.1 in cc) in
      ap clause_words (sym is) ∙ words_are w 3 w.first 0 (sym k) refl (sym (eqb-true w.second 0 q.0))

  pub clause_back : w.kind ≤ 3 → clause_read w ≡ Ok c → clause_words c ≡ w
  clause_back h e =
      chosen (eqb w.kind 0) _ _ (Ok c) (clause_words c ≡ w) e (λ t x. free (eqb-true w.kind 0 t) x) (λ n0 x.
      chosen (eqb w.kind 1) _ _ (Ok c) (clause_words c ≡ w) x (λ t y. straight (eqb-true w.kind 1 t) y) (λ n1 y.
      chosen (eqb w.kind 2) _ _ (Ok c) (clause_words c ≡ w) y (λ t z. bent (eqb-true w.kind 2 t) z) (λ n2 z.
      fixed (omega (arith, eqb-false w.kind 0 n0, eqb-false w.kind 1 n1, eqb-false w.kind 2 n2)) z)))

  -- and so it is legal: its own words stand for it
  pub clause_legal : w.kind ≤ 3 → clause_read w ≡ Ok c → Legal c
  clause_legal h e = ap clause_read (clause_back h e) ∙ e
