-- A row has two sides, and the inequality of each of a sound row's triples is one of them.
use Rattle.std.specs.Prelude.{◌≡◌, ℕ, ◌*◌, cond, ◌↔◌, ℤ, pos, negsuc, ◌+ℤ◌, ◌-ℤ◌, ◌*ℤ◌, neg_ℤ, ◌≤ℤ◌, int_lt, unsigned_abs}
use Rattle.std.proofs.Common.{ap, sym, ◌∙◌, true≢false, arith}
use Rattle.std.proofs.lemmas.Int.{ints}
use Rattle.std.proofs.lemmas.Bool.{false≢true, cond-false, le-ltb}
use Rattle.torque.specs.declared.row.Row.{Row}
use Rattle.motion.specs.declared.triple.Triple.{Triple}
use Rattle.torque.specs.Rows.{weight, Sound}
use Rattle.motion.specs.Rows.{moment, lowest, highest, Holds, BoundsNext, BoundsLast}
use Rattle.torque.specs.Rows.{room_above_of, room_below_of}
use Rattle.motion.specs.Torques.{on_right_of, on_left_of}
use Rattle.motion.specs.Integers.{mul-sum, mul-neg, sum-mul, neg-mul, mul-mul}

-- ---- the moment, by what each squared speed weighs

collect : (P Q A B C G L : ℤ) → P ≡ A +ℤ neg_ℤ B → Q ≡ C +ℤ G → L ≡ B +ℤ neg_ℤ C → P +ℤ Q ≡ A -ℤ L +ℤ G
collect P Q A B C G L p q l = omega (arith, ints)

module _ (H d c g w w' : ℤ) where
  pub weighed : d *ℤ (w' -ℤ w) +ℤ H *ℤ (c *ℤ w +ℤ g) ≡ d *ℤ w' -ℤ (d -ℤ H *ℤ c) *ℤ w +ℤ H *ℤ g
  weighed =
      collect (d *ℤ (w' -ℤ w)) (H *ℤ (c *ℤ w +ℤ g)) (d *ℤ w') (d *ℤ w) (H *ℤ c *ℤ w) (H *ℤ g) ((d -ℤ H *ℤ c) *ℤ w)
      (mul-sum d w' (neg_ℤ w) ∙ ap (λ (z : ℤ). d *ℤ w' +ℤ z) (mul-neg d w))
      (mul-sum H (c *ℤ w) g ∙ ap (λ (z : ℤ). z +ℤ H *ℤ g) (sym (mul-mul H c w)))
      (sum-mul d (neg_ℤ (H *ℤ c)) w ∙ ap (λ (z : ℤ). d *ℤ w +ℤ z) (neg-mul (H *ℤ c) w))

mul-difference : (H a b : ℤ) → H *ℤ (a -ℤ b) ≡ H *ℤ a -ℤ H *ℤ b
mul-difference H a b = mul-sum H a (neg_ℤ b) ∙ ap (λ (z : ℤ). H *ℤ a +ℤ z) (mul-neg H b)

-- ---- over the signs of d and of the weight e

module _ (T G lo hi below above : ℤ) (w w' : ℕ) (is_below : below ≡ G -ℤ lo) (is-above : above ≡ hi -ℤ G) where
  next_by_sign : (d e : ℤ) → int_lt d (pos 0) ≡ int_lt e (pos 0) → T ≡ d *ℤ pos w' -ℤ e *ℤ pos w +ℤ G
      → (pos (unsigned_abs d * w') ≤ℤ (pos (unsigned_abs e * w) +ℤ cond (int_lt d (pos 0)) below above)) ↔ BoundsNext d lo T hi
  next_by_sign (pos d) (pos e) a t =
      let c : cond (int_lt (pos d) (pos 0)) below above ≡ above = cond-false _ _ _ (le-ltb d 0 (omega arith)) in
      ((λ k. record { high = λ _. omega (arith, ints); low = λ n. absurd (omega (arith, ints)) }), λ k. let u = k.high (omega (arith, ints)) in omega (arith, ints))
  next_by_sign (pos d) (negsuc e) a t = absurd (false≢true (sym (le-ltb d 0 (omega arith)) ∙ a))
  next_by_sign (negsuc d) (pos e) a t = absurd (true≢false (a ∙ le-ltb e 0 (omega arith)))
  next_by_sign (negsuc d) (negsuc e) a t =
      ((λ k. record { high = λ n. absurd (omega (arith, ints)); low = λ _. omega (arith, ints) }), λ k. let u = k.low (omega (arith, ints)) in omega (arith, ints))

  last_by_sign : (d e : ℤ) → int_lt d (pos 0) ≡ int_lt e (pos 0) → T ≡ d *ℤ pos w' -ℤ e *ℤ pos w +ℤ G
      → (pos (unsigned_abs e * w) ≤ℤ (pos (unsigned_abs d * w') +ℤ cond (int_lt d (pos 0)) above below)) ↔ BoundsLast d lo T hi
  last_by_sign (pos d) (pos e) a t =
      let c : cond (int_lt (pos d) (pos 0)) above below ≡ below = cond-false _ _ _ (le-ltb d 0 (omega arith)) in
      ((λ k. record { high = λ n. absurd (omega (arith, ints)); low = λ _. omega (arith, ints) }), λ k. let u = k.low (omega (arith, ints)) in omega (arith, ints))
  last_by_sign (pos d) (negsuc e) a t = absurd (false≢true (sym (le-ltb d 0 (omega arith)) ∙ a))
  last_by_sign (negsuc d) (pos e) a t = absurd (true≢false (a ∙ le-ltb e 0 (omega arith)))
  last_by_sign (negsuc d) (negsuc e) a t =
      ((λ k. record { high = λ _. omega (arith, ints); low = λ n. absurd (omega (arith, ints)) }), λ k. let u = k.high (omega (arith, ints)) in omega (arith, ints))

-- the two sides of lo ≤ T ≤ hi
sides : (d lo T hi : ℤ) → ((lo ≤ℤ T) × (T ≤ℤ hi)) ↔ (BoundsNext d lo T hi × BoundsLast d lo T hi)
sides d lo T hi = ((λ k. (record { high = λ _. k.1; low = λ _. k.0 }, record { high = λ _. k.1; low = λ _. k.0 })), from d)
  where
    from : (d : ℤ) → BoundsNext d lo T hi × BoundsLast d lo T hi → (lo ≤ℤ T) × (T ≤ℤ hi)
    from (pos d) k = (k.1.low (omega (arith, ints)), k.0.high (omega (arith, ints)))
    from (negsuc d) k = (k.0.low (omega (arith, ints)), k.1.high (omega (arith, ints)))

abbrev pub Obeys : Triple → ℕ → ℕ → Type 0
Obeys t x near = pos (t.own * x) ≤ℤ (pos (t.near * near) +ℤ t.constant)

module _ (h : ℕ) (r : Row) (w w' : ℕ) where
  module _ (s : Sound h r) where
    -- the inequality of each triple is one side of the row
    pub next_side : Obeys (on_right_of h r) w' w ↔ BoundsNext r.d (lowest h r) (moment h r w w') (highest h r)
    next_side =
        next_by_sign (moment h r w w') (pos (2 * h) *ℤ r.g) (lowest h r) (highest h r) (room_below_of h r) (room_above_of h r) w w'
        (mul-difference (pos (2 * h)) r.g r.lo) (mul-difference (pos (2 * h)) r.hi r.g)
        r.d (weight h r) s.alike (weighed (pos (2 * h)) r.d r.c r.g (pos w) (pos w'))

    pub last_side : Obeys (on_left_of h r) w w' ↔ BoundsLast r.d (lowest h r) (moment h r w w') (highest h r)
    last_side =
        last_by_sign (moment h r w w') (pos (2 * h) *ℤ r.g) (lowest h r) (highest h r) (room_below_of h r) (room_above_of h r) w w'
        (mul-difference (pos (2 * h)) r.g r.lo) (mul-difference (pos (2 * h)) r.hi r.g)
        r.d (weight h r) s.alike (weighed (pos (2 * h)) r.d r.c r.g (pos w) (pos w'))

  pub row_holds : Holds h r w w' ↔ (BoundsNext r.d (lowest h r) (moment h r w w') (highest h r) × BoundsLast r.d (lowest h r) (moment h r w w') (highest h r))
  row_holds =
      let b = sides r.d (lowest h r) (moment h r w w') (highest h r) in
      ((λ k. b.0 (k.low, k.high)), λ k. let t = b.1 k in record { low = t.0; high = t.1 })
