-- The torque rows of an accepted frame are sound: the questions that they passed say so.
use Rattle.std.specs.Prelude.{◌≡◌, ℕ, zero, suc, ◌+◌, ◌-◌, ◌*◌, ◌<◌, ◌≤◌, true, false, List, [], ◌∷◌, length, Some, ◌==◌, nat_eq, slice_index_or}
use Rattle.std.proofs.Common.{sym, ap, ◌∙◌, subst, add-one, arith}
use Rattle.std.proofs.lemmas.List.{get_or_default}
use Rattle.std.proofs.lemmas.List.Sorted.{IsNonDecreasingBy-from_all_adjacent}
use Rattle.std.proofs.lemmas.Bool.{ne_eqb, cond-false}
use Rattle.words.specs.Words.{be16_at}
use Rattle.torque.specs.declared.row.Row.{Row}
use Rattle.torque.specs.Rows.{row_at, no_row, SoundRows}
use Rattle.record.specs.Rows.{row_words_at}
use Rattle.record.proofs.RecordTrips.{RowAsked}
use Rattle.frame.specs.declared.header.Header.{Header}
use Rattle.frame.specs.Layout.{rows_at}
use Rattle.frame.specs.Paths.{header_at, row_place_of, row_around, gap_before_of, accepted}
use Rattle.frame.specs.Views.{path_of, nth}
use Rattle.frame.proofs.Accepted.{yes'}
use Rattle.frame.proofs.Asking.{answered}
use Rattle.frame.proofs.InPlace.{row_found}
use Rattle.sources.specs.Sources.{rows_of}

-- the element of a number, read at whatever default
pub nth-slice_index_or : {A : Type 0} (xs : List A) (i : ℕ) (x d : A) → nth xs i ≡ Some x → slice_index_or xs i d ≡ x
nth-slice_index_or [] i x d e = absurd (let z : ◌≡◌ {A = ℕ} 0 1 = cc in omega arith)
nth-slice_index_or (y ∷ ys) zero x d e = cc
nth-slice_index_or (y ∷ ys) (suc i) x d e = nth-slice_index_or ys i x d e

module _ (bs : List ℕ) (e : accepted bs ≡ true) where
  abbrev path_rows : List Row
  path_rows = (path_of bs).rows

  abbrev h : Header
  h = header_at bs

  counted : length path_rows ≡ h.rows
  counted = (answered (row_place_of h) _ h.rows 0 path_rows (yes' bs e).held.rows).counted

  asked : (k : ℕ) → k < length path_rows → RowAsked (row_around bs h k) (row_words_at bs (rows_at h.samples + 24 * k)) (slice_index_or path_rows k no_row)
  asked k l =
      let r = row_found bs e k (omega (arith, counted)) in
      subst (RowAsked (row_around bs h k) (row_words_at bs (rows_at h.samples + 24 * k))) (sym (nth-slice_index_or path_rows k r.0 no_row r.2)) r.1

  -- the gap that a row is asked to be no lower than is that of the row before
  before_is : (k : ℕ) → gap_before_of bs h (suc k) ≡ be16_at bs (rows_at h.samples + 24 * k + 0)
  before_is k =
      let t : nat_eq (suc k) 0 ≡ false = ne_eqb (suc k) 0 (λ e. omega arith) in
      let z : rows_at h.samples + 24 * (suc k - 1) ≡ rows_at h.samples + 24 * k + 0 = omega arith in
      cond-false (suc k == 0) 0 (be16_at bs (rows_at h.samples + 24 * (suc k - 1))) t ∙ ap (be16_at bs) z

  next : (k : ℕ) (d : Row) → k + 1 < length path_rows → (slice_index_or path_rows k d).gap ≤ (slice_index_or path_rows (k + 1) d).gap
  next k d l =
      let here = ap (λ (r : Row). r.gap) (asked k (omega arith)).row in
      let there = (asked (suc k) (omega arith)).order in
      let same : (i : ℕ) → i < length path_rows → slice_index_or path_rows i d ≡ row_at path_rows i = λ i m. get_or_default path_rows i d no_row m in
      rw (same k (omega arith), same (k + 1) l) (rw (add-one, here, ← before_is k) there)

  pub rows_sound : SoundRows (path_of bs).header.spacing (rows_of (path_of bs))
  rows_sound = subst (λ (x : Header). SoundRows x.spacing path_rows) (sym (yes' bs e).header.is) (record {
    sound = λ k l. (asked k l).sound;
    rising = λ j k. IsNonDecreasingBy-from_all_adjacent (λ (r : Row). r.gap) path_rows next j k no_row;
  })
