-- A test of rows, true exactly where they are sound: `are_sound_lem` and `sound_are`.
use Rattle.std.specs.Prelude.{◌≡◌, ℕ, zero, suc, ◌<◌, ◌≤◌, Bool, true, cond, not, ◌&&◌, List, [], ◌∷◌, length, ℤ, pos, int_lt, nat_le, nat_lt, unsigned_abs, refl}
use Rattle.std.specs.List.{list_all}
use Rattle.std.proofs.Common.{arith, tests}
use Rattle.std.proofs.lemmas.Bool.{and_parts, and_from, leb-true, le-leb}
use Rattle.torque.specs.declared.row.Row.{Row}
use Rattle.torque.specs.Rows.{row_size, weight, row_at, Sound, SoundRows}

abbrev pub small : ℤ → Bool
small n = nat_le (unsigned_abs n) row_size

abbrev pub same_sign : ℤ → ℤ → Bool
same_sign a b = cond (int_lt a (pos 0)) (int_lt b (pos 0)) (not (int_lt b (pos 0)))

abbrev pub small_row : Row → Bool
small_row r = list_all small (r.d ∷ r.c ∷ r.g ∷ r.lo ∷ r.hi ∷ [])

-- the weight e: it is not 0, of d's sign and small
abbrev pub weighing : ℤ → ℤ → Bool
weighing d e = nat_lt 0 (unsigned_abs e) && (same_sign d e && small e)

-- d and the weight e: neither is 0, they have one sign, and the weight is small
abbrev pub weighs : ℤ → ℤ → Bool
weighs d e = nat_lt 0 (unsigned_abs d) && weighing d e

abbrev pub sound_row : ℕ → Row → Bool
sound_row h r = small_row r && weighs r.d (weight h r)

-- a row that is sound, and lies at no gap before that of the row before it
abbrev pub in_turn : ℕ → Row → Row → Bool
in_turn h before r = nat_le before.gap r.gap && sound_row h r

-- after a row at the gap last
abbrev pub sound_from : ℕ → ℕ → List Row → Bool
sound_from h last [] = true
sound_from h last (r ∷ rows) = sound_row h r && (nat_le last r.gap && sound_from h r.gap rows)

abbrev pub sound_rows : ℕ → List Row → Bool
sound_rows h rows = sound_from h 0 rows

-- ---- what the test says, and where it is true

pub is_sound_lem : (h : ℕ) (r : Row) → sound_row h r ≡ true → Sound h r
is_sound_lem h r e = grind (arith, tests)

pub sound_is : (h : ℕ) (r : Row) → Sound h r → sound_row h r ≡ true
sound_is h r s = grind (arith, tests)

-- the head's test, its gap, and the test of the rest
parts : (h last : ℕ) (r : Row) (rows : List Row) → sound_from h last (r ∷ rows) ≡ true → Sound h r × (last ≤ r.gap) × (sound_from h r.gap rows ≡ true)
parts h last r rows e =
    let a = and_parts (sound_row h r) (nat_le last r.gap && sound_from h r.gap rows) e in
    let b = and_parts (nat_le last r.gap) (sound_from h r.gap rows) a.1 in
    (is_sound_lem h r a.0, leb-true last r.gap b.0, b.1)

each : (h last : ℕ) (rows : List Row) → sound_from h last rows ≡ true → (k : ℕ) → k < length rows → Sound h (row_at rows k) × (last ≤ (row_at rows k).gap)
each h last [] e k l = absurd (omega arith)
each h last (r ∷ rows) e zero l = let a = parts h last r rows e in (a.0, a.1)
each h last (r ∷ rows) e (suc k) l =
    let a = parts h last r rows e in
    let t = each h r.gap rows a.2 k (omega arith) in
    (t.0, omega arith)

rises : (h last : ℕ) (rows : List Row) → sound_from h last rows ≡ true → (j k : ℕ) → j ≤ k → k < length rows → (row_at rows j).gap ≤ (row_at rows k).gap
rises h last [] e j k m l = absurd (omega arith)
rises h last (r ∷ rows) e zero zero m l = omega arith
rises h last (r ∷ rows) e zero (suc k) m l = (each h r.gap rows (parts h last r rows e).2 k (omega arith)).1
rises h last (r ∷ rows) e (suc j) zero m l = absurd (omega arith)
rises h last (r ∷ rows) e (suc j) (suc k) m l = rises h r.gap rows (parts h last r rows e).2 j k (omega arith) (omega arith)

pub are_sound_lem : (h : ℕ) (rows : List Row) → sound_rows h rows ≡ true → SoundRows h rows
are_sound_lem h rows e = record { sound = λ k l. (each h 0 rows e k l).0; rising = rises h 0 rows e }

all_sound : (h last : ℕ) (rows : List Row) → ((k : ℕ) → k < length rows → Sound h (row_at rows k)) → ((k : ℕ) → k < length rows → last ≤ (row_at rows k).gap)
    → ((j k : ℕ) → j ≤ k → k < length rows → (row_at rows j).gap ≤ (row_at rows k).gap) → sound_from h last rows ≡ true
all_sound h last [] s g u = refl
all_sound h last (r ∷ rows) s g u =
    and_from _ _ (sound_is h r (s 0 (omega arith)))
    (and_from _ _ (le-leb last r.gap (g 0 (omega arith)))
    (all_sound h r.gap rows (λ k l. s (suc k) (omega arith)) (λ k l. u 0 (suc k) (omega arith) (omega arith)) (λ j k m l. u (suc j) (suc k) (omega arith) (omega arith))))

pub sound_are : (h : ℕ) (rows : List Row) → SoundRows h rows → sound_rows h rows ≡ true
sound_are h rows s = all_sound h 0 rows s.sound (λ k l. omega arith) s.rising
