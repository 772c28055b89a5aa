-- What the library's test of each row and the next says of all rows.
use Rattle.std.proofs.Common.{◌≡◌, ℕ, zero, suc, ◌+◌, ◌<◌, ◌≤◌, Bool, true, false, List, length, sym, ◌∙◌, refl, subst, arith, nat_le, slice_index_or}
use Rattle.std.specs.Bool.{Decides}
use Rattle.std.specs.List.{IsAllAdjacentAnswer}
use Rattle.std.proofs.lemmas.Bool.{and_parts, and_from, false≢true, leb-true, le-leb}
use Rattle.std.proofs.lemmas.List.Sorted.{IsNonDecreasingBy-from_all_adjacent}
use Rattle.torque.specs.declared.row.Row.{Row}
use Rattle.torque.specs.Rows.{row_at, no_row, Sound, SoundRows}
use Rattle.torque.specs.Soundness.{sound_row, in_turn, is_sound_lem, sound_is}

abbrev gap : Row → ℕ
gap r = r.gap

module _ (h : ℕ) where
  -- what the test says of a row and the one before it
  turn : (a b : Row) → in_turn h a b ≡ true → (a.gap ≤ b.gap) × Sound h b
  turn a b e = let both = and_parts (nat_le a.gap b.gap) (sound_row h b) e in (leb-true a.gap b.gap both.0, is_sound_lem h b both.1)

  turned : (a b : Row) → a.gap ≤ b.gap → Sound h b → in_turn h a b ≡ true
  turned a b l s = and_from (nat_le a.gap b.gap) (sound_row h b) (le-leb a.gap b.gap l) (sound_is h b s)

  module _ (rows : List Row) (first : 0 < length rows → Sound h (row_at rows 0)) where
    each : ((k : ℕ) (d : Row) → k + 1 < length rows → in_turn h (row_at rows k) (row_at rows (k + 1)) ≡ true) → (k : ℕ) → k < length rows → Sound h (row_at rows k)
    each all zero l = first l
    each all (suc k) l = let next : k + 1 ≡ suc k = omega arith in subst (λ n. Sound h (row_at rows n)) next (turn (row_at rows k) (row_at rows (k + 1)) (all k no_row (omega arith))).1

    -- where the first row is sound, the test of each row and the next decides
    pub Decides-in_turn : (s : Bool) → IsAllAdjacentAnswer (λ x y b. b ≡ in_turn h x y) rows s → Decides s (SoundRows h rows)
    Decides-in_turn true all = (
      (λ _. record { sound = each (λ k d l. sym (all k no_row l)); rising = λ j k. IsNonDecreasingBy-from_all_adjacent gap rows (λ k d l. (turn (slice_index_or rows k d) (slice_index_or rows (k + 1) d) (sym (all k d l))).0) j k no_row }),
      λ _. refl,
    )
    Decides-in_turn false broken = (
      (λ e. absurd (false≢true e)),
      λ s. absurd (false≢true (broken.2 no_row ∙ turned (row_at rows broken.0) (row_at rows (broken.0 + 1)) (s.rising broken.0 (broken.0 + 1) (omega arith) broken.1) (s.sound (broken.0 + 1) broken.1))),
    )
