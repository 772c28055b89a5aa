-- Rows of torque keep the rule, and are kept exactly by the profiles that they drive.
use Rattle.std.specs.Prelude.{◌≡◌, ℕ, zero, suc, ◌+◌, ◌-◌, ◌*◌, ◌<◌, ◌≤◌, Bool, ◌&&◌, ◌↔◌, List, [], ◌∷◌, length, ℤ, pos, negsuc, ◌+ℤ◌, ◌≤ℤ◌, ◌==◌, nat_lt, refl}
use Rattle.std.proofs.Common.{subst, arith, mul-le-mul_left}
use Rattle.std.proofs.lemmas.Int.{ints, clamps}
use Rattle.std.proofs.lemmas.Bool.Decides.{nat_tests}
use Rattle.std.proofs.lemmas.Bool.{lt-ltb, ltb-true, eq-eqb, eqb-true, and_parts, and_from}
use Rattle.grade.specs.Profiles.{Profile, rank}
use Rattle.grade.specs.Tops.{speed_top}
use Rattle.torque.specs.declared.row.Row.{Row}
use Rattle.motion.specs.declared.triple.Triple.{Triple}
use Rattle.limit.specs.Numbers.{Keeps, KeptExactly}
use Rattle.torque.specs.Rows.{row_at, Sound, SoundRows}
use Rattle.motion.specs.Rows.{moment, lowest, highest, BoundsNext, BoundsLast, WithinTorque, WithinTorqueAt}
use Rattle.motion.specs.Torques.{on_right_of, on_left_of, bound, allows_after, allows_before, allows, least, torque}
use Rattle.motion.specs.FloorsLemmas.{floored_low, floored_mono, under_floored}
use Rattle.motion.specs.Moments.{next_side, last_side, row_holds}
use Rattle.limit.specs.NumbersLemmas.{min_mono, min_low, under_min, where_low, where_mono, under_where}

-- ---- one inequality

bound_mono : (t : Triple) (v w : ℕ) → v ≤ w → bound t v ≤ℤ bound t w
bound_mono t v w h = floored_mono t.own _ _ (omega (arith, ints, mul-le-mul_left t.near h))

-- ---- the least over rows

module _ (f : Row → ℤ) where
  pub least_low : ((r : Row) → negsuc 0 ≤ℤ f r) → (rows : List Row) → negsuc 0 ≤ℤ least f rows
  least_low h [] = omega (arith, ints)
  least_low h (r ∷ rows) = min_low _ _ _ (h r) (least_low h rows)

  pub least_high : (rows : List Row) → least f rows ≤ℤ pos speed_top
  least_high [] = omega (arith, ints)
  least_high (r ∷ rows) = let k = least_high rows in omega (arith, ints, clamps)

  -- rows that bound nothing
  pub least_none : (rows : List Row) → ((k : ℕ) → k < length rows → f (row_at rows k) ≡ pos speed_top) → least f rows ≡ pos speed_top
  least_none [] h = refl
  least_none (r ∷ rows) h =
      let a = h 0 (omega arith) in
      let b = least_none rows (λ k l. h (suc k) (omega arith)) in
      omega (arith, ints, clamps)

  pub under_least : (x : ℕ) → x ≤ speed_top → (rows : List Row) → (pos x ≤ℤ least f rows) ↔ ((k : ℕ) → k < length rows → pos x ≤ℤ f (row_at rows k))
  under_least x l rows = (to rows, from rows)
    where
      to : (rows : List Row) → pos x ≤ℤ least f rows → (k : ℕ) → k < length rows → pos x ≤ℤ f (row_at rows k)
      to [] h k a = absurd (omega arith)
      to (r ∷ rows) h zero a = ((under_min (pos x) (f r) (least f rows)).0 h).0
      to (r ∷ rows) h (suc k) a = to rows ((under_min (pos x) (f r) (least f rows)).0 h).1 k (omega arith)

      from : (rows : List Row) → ((k : ℕ) → k < length rows → pos x ≤ℤ f (row_at rows k)) → pos x ≤ℤ least f rows
      from [] h = omega (arith, ints)
      from (r ∷ rows) h = (under_min (pos x) (f r) (least f rows)).1 (h 0 (omega arith), from rows (λ k a. h (suc k) (omega arith)))

least_mono : (f g : Row → ℤ) → ((r : Row) → f r ≤ℤ g r) → (rows : List Row) → least f rows ≤ℤ least g rows
least_mono f g h [] = omega (arith, ints)
least_mono f g h (r ∷ rows) = min_mono _ _ _ _ (h r) (least_mono f g h rows)

-- ---- the rule

abbrev pub is_after : Profile → ℕ → Row → Bool
is_after p i r = r.gap + 1 == i && nat_lt i (length p)

abbrev pub is_before : Profile → ℕ → Row → Bool
is_before p i r = r.gap == i && nat_lt (i + 1) (length p)

module _ (h : ℕ) where
  pub allows_low : (p : Profile) (i : ℕ) (r : Row) → negsuc 0 ≤ℤ allows h p i r
  allows_low p i r = min_low _ _ _ (where_low (is_after p i r) _ speed_top (floored_low _ _)) (where_low (is_before p i r) _ speed_top (floored_low _ _))

  allows_outside : (p : Profile) (i : ℕ) → length p ≤ i → (r : Row) → allows h p i r ≡ pos speed_top
  allows_outside p i l r = grind (arith, ints, clamps, nat_tests)

  allows_mono : (p q : Profile) → length p ≡ length q → ((k : ℕ) → rank p k ≤ rank q k) → (i : ℕ) (r : Row) → allows h p i r ≤ℤ allows h q i r
  allows_mono p q len le i r =
      rw len (min_mono _ _ _ _
      (where_mono (is_after q i r) _ _ speed_top (bound_mono (on_right_of h r) _ _ (le (i - 1))))
      (where_mono (is_before q i r) _ _ speed_top (bound_mono (on_left_of h r) _ _ (le (i + 1)))))

  module _ (rows : List Row) where
    pub torque_low : (p : Profile) (i : ℕ) → negsuc 0 ≤ℤ torque h rows p i
    torque_low p i = least_low (allows h p i) (allows_low p i) rows

    pub torque_high : (p : Profile) (i : ℕ) → torque h rows p i ≤ℤ pos speed_top
    torque_high p i = least_high (allows h p i) rows

    pub torque_outside : (p : Profile) (i : ℕ) → length p ≤ i → torque h rows p i ≡ pos speed_top
    torque_outside p i l = least_none (allows h p i) rows (λ k _. allows_outside p i l (row_at rows k))

    pub torque_mono : (p q : Profile) → length p ≡ length q → ((k : ℕ) → rank p k ≤ rank q k) → (i : ℕ) → torque h rows p i ≤ℤ torque h rows q i
    torque_mono p q len le i = least_mono (allows h p i) (allows h q i) (allows_mono p q len le i) rows

  -- ---- what keeps them

  abbrev Next : Row → ℕ → ℕ → Type 0
  Next r w w' = BoundsNext r.d (lowest h r) (moment h r w w') (highest h r)

  abbrev Last : Row → ℕ → ℕ → Type 0
  Last r w w' = BoundsLast r.d (lowest h r) (moment h r w w') (highest h r)

  module _ (p : Profile) (i x : ℕ) (l : x ≤ speed_top) where
    at_next : (r : Row) → Sound h r → (pos x ≤ℤ allows_after h p i r) ↔ (r.gap + 1 ≡ i → i < length p → Next r (rank p (i - 1)) x)
    at_next r s =
        let u = under_where (is_after p i r) (bound (on_right_of h r) (rank p (i - 1))) speed_top x l in
        let f = under_floored (on_right_of h r).own (pos ((on_right_of h r).near * rank p (i - 1)) +ℤ (on_right_of h r).constant) x s.d_some l in
        let o = next_side h r (rank p (i - 1)) x s in (
          (λ k e m. o.0 (f.0 (u.0 k (and_from _ _ (eq-eqb (r.gap + 1) i e) (lt-ltb i (length p) m))))),
          λ k. u.1 (λ e. let t = and_parts (r.gap + 1 == i) (nat_lt i (length p)) e in f.1 (o.1 (k (eqb-true (r.gap + 1) i t.0) (ltb-true i (length p) t.1)))),
        )

    at_last : (r : Row) → Sound h r → (pos x ≤ℤ allows_before h p i r) ↔ (r.gap ≡ i → i + 1 < length p → Last r x (rank p (i + 1)))
    at_last r s =
        let u = under_where (is_before p i r) (bound (on_left_of h r) (rank p (i + 1))) speed_top x l in
        let f = under_floored (on_left_of h r).own (pos ((on_left_of h r).near * rank p (i + 1)) +ℤ (on_left_of h r).constant) x s.weight_some l in
        let o = last_side h r x (rank p (i + 1)) s in (
          (λ k e m. o.0 (f.0 (u.0 k (and_from _ _ (eq-eqb r.gap i e) (lt-ltb (i + 1) (length p) m))))),
          λ k. u.1 (λ e. let t = and_parts (r.gap == i) (nat_lt (i + 1) (length p)) e in f.1 (o.1 (k (eqb-true r.gap i t.0) (ltb-true (i + 1) (length p) t.1)))),
        )

    -- a squared speed is at most the number exactly when it keeps the sides of rows that bound it
    pub under_torque : (rows : List Row) → SoundRows h rows → (pos x ≤ℤ torque h rows p i) ↔ WithinTorqueAt h rows p i x
    under_torque rows s =
        let u = under_least (allows h p i) x l rows in
        let m : (r : Row) → (pos x ≤ℤ allows h p i r) ↔ ((pos x ≤ℤ allows_after h p i r) × (pos x ≤ℤ allows_before h p i r)) = λ r. under_min (pos x) (allows_after h p i r) (allows_before h p i r) in (
          (λ k. record {
            next = λ j b. (at_next (row_at rows j) (s.sound j b)).0 ((m (row_at rows j)).0 (u.0 k j b)).0;
            last = λ j b. (at_last (row_at rows j) (s.sound j b)).0 ((m (row_at rows j)).0 (u.0 k j b)).1;
          }),
          λ k. u.1 (λ j b. (m (row_at rows j)).1 ((at_next (row_at rows j) (s.sound j b)).1 (k.next j b), (at_last (row_at rows j) (s.sound j b)).1 (k.last j b))),
        )

  pub keeps_torque : (rows : List Row) → SoundRows h rows → KeptExactly speed_top (torque h rows) (WithinTorque h rows)
  keeps_torque rows s p w = (to, from)
    where
      to : Keeps (torque h rows) p → WithinTorque h rows p
      to k j b m =
          let r = row_at rows j in
          let n : r.gap < length p = omega arith in
          let e : r.gap + 1 - 1 ≡ r.gap = omega arith in
          let after = ((under_torque p (r.gap + 1) (rank p (r.gap + 1)) (w (r.gap + 1) m) rows s).0 (k (r.gap + 1) m)).next j b refl m in
          let before = ((under_torque p r.gap (rank p r.gap) (w r.gap n) rows s).0 (k r.gap n)).last j b refl m in
          (row_holds h r (rank p r.gap) (rank p (r.gap + 1))).1 (rw e at after, before)

      from : WithinTorque h rows p → Keeps (torque h rows) p
      from t i m = (under_torque p i (rank p i) (w i m) rows s).1 (record {
        next = λ j b e n. let r = row_at rows j in
            let d : r.gap + 1 - 1 ≡ r.gap = omega arith in
            subst (λ (k : ℕ). Next r (rank p (k - 1)) (rank p k)) e
            (rw d ((row_holds h r (rank p r.gap) (rank p (r.gap + 1))).0 (t j b (omega arith))).0);
        last = λ j b e n. let r = row_at rows j in
            subst (λ (k : ℕ). Last r (rank p k) (rank p (k + 1))) e
            ((row_holds h r (rank p r.gap) (rank p (r.gap + 1))).0 (t j b (omega arith))).1;
      })
