-- The records of an accepted frame are what lies in its bytes.
use Rattle.std.proofs.Common.{◌≡◌, ℕ, ◌+◌, ◌-◌, ◌*◌, ◌<◌, ◌≤◌, true, ltb, List, is_ok, Some, None, Ok, Err, Result, sym, refl, ap, ◌∙◌, arith, w32, to_z}
use Rattle.std.proofs.lemmas.Bool.{lt-ltb, le-ltb, cond-true, cond-false}
use Rattle.words.specs.Words.{be32_at}
use Rattle.record.specs.declared.sample.Sample.{Sample}
use Rattle.torque.specs.declared.row.Row.{Row}
use Rattle.record.specs.Samples.{sample_words_at}
use Rattle.record.specs.Gaps.{gap_words_at}
use Rattle.record.specs.Rows.{row_words_at, row_of}
use Rattle.record.proofs.RecordTrips.{gap_facts, SampleAsked, sample_asked_lem, RowAsked, row_asked_lem}
use Rattle.frame.specs.Layout.{samples_at, gaps_at, rows_at}
use Rattle.frame.specs.Records.{records_read, ok_of}
use Rattle.frame.specs.Paths.{header_at, at_end_of, sample_place, gap_place, row_place_of, row_around, sample_at_of, gap_at, row_at, accepted}
use Rattle.frame.specs.Views.{path_of, nth, offset_in}
use Rattle.frame.proofs.Accepted.{yes', record_is}
use Rattle.frame.proofs.Again.{each_ok}

module _ {T F : Type 0} (place : ℕ → ℕ) (read : ℕ → Result T F) (k : ℕ) (xs : List T) (e : records_read place read k 0 ≡ Ok xs) (i : ℕ) where
  -- past the last there is nothing
  pub none_past : k ≤ i → None ≡ nth xs i
  none_past l = sym (cond-false (ltb i k) (ok_of (read i)) None (le-ltb i k l)) ∙ record_is place read k xs e i

  -- a record below the count was read
  pub read_below : i < k → (x : T) × (read i ≡ Ok x) × (nth xs i ≡ Some x)
  read_below l = found (read i) refl (each_ok place read k xs e i l)
    where
      found : (r : Result T F) → read i ≡ r → is_ok r ≡ true → (x : T) × (read i ≡ Ok x) × (nth xs i ≡ Some x)
      found (Ok x) is t = (x, is, sym (record_is place read k xs e i) ∙ cond-true (ltb i k) (ok_of (read i)) None (lt-ltb i k l) ∙ ap ok_of is)
      found (Err f) is t = absurd (let z : ◌≡◌ {A = ℕ} 0 1 = cc in omega arith)

module _ (bs : List ℕ) (e : accepted bs ≡ true) (i : ℕ) where
  pub gap_past : (header_at bs).samples - 1 ≤ i → None ≡ nth (path_of bs).gaps i
  gap_past l = let h = header_at bs in none_past (gap_place h) (gap_at bs h) (h.samples - 1) (path_of bs).gaps (yes' bs e).held.gaps i l

  pub gap_is : i < (header_at bs).samples - 1 → Some (gap_words_at bs (gaps_at (header_at bs).samples + 12 * i)).gap ≡ nth (path_of bs).gaps i
  unfolding gap_at
  gap_is l =
      let h = header_at bs in
      let r = read_below (gap_place h) (gap_at bs h) (h.samples - 1) (path_of bs).gaps (yes' bs e).held.gaps i l in
      let f = gap_facts (gap_words_at bs (gaps_at h.samples + 12 * i)) r.0 r.1 in
      ap (λ w. Some w.gap) (sym f.words) ∙ sym r.2

  pub row_past : (header_at bs).rows ≤ i → None ≡ nth (path_of bs).rows i
  row_past l = let h = header_at bs in none_past (row_place_of h) (row_at bs h) h.rows (path_of bs).rows (yes' bs e).held.rows i l

  -- a row that was read, as its questions leave it
  pub row_found : i < (header_at bs).rows → (r : Row) × RowAsked (row_around bs (header_at bs) i) (row_words_at bs (rows_at (header_at bs).samples + 24 * i)) r × (nth (path_of bs).rows i ≡ Some r)
  unfolding row_at
  row_found l =
      let h = header_at bs in
      let r = read_below (row_place_of h) (row_at bs h) h.rows (path_of bs).rows (yes' bs e).held.rows i l in
      (r.0, row_asked_lem (row_around bs h i) (row_words_at bs (rows_at h.samples + 24 * i)) r.0 r.1, r.2)

  pub row_is : i < (header_at bs).rows → Some (row_of (row_words_at bs (rows_at (header_at bs).samples + 24 * i))) ≡ nth (path_of bs).rows i
  row_is l = let r = row_found l in ap (λ x. Some x) (sym r.1.row) ∙ sym r.2

  pub sample_past : (header_at bs).samples ≤ i → None ≡ nth (path_of bs).samples i
  sample_past l = let h = header_at bs in none_past sample_place (sample_at_of bs h) h.samples (path_of bs).samples (yes' bs e).held.samples i l

  -- a sample that was read, as its questions leave it
  pub sample_found : i < (header_at bs).samples → (s : Sample) × SampleAsked (sample_words_at bs (samples_at + 20 * i)) s × (nth (path_of bs).samples i ≡ Some s)
  unfolding sample_at_of
  sample_found l =
      let h = header_at bs in
      let r = read_below sample_place (sample_at_of bs h) h.samples (path_of bs).samples (yes' bs e).held.samples i l in
      (r.0, sample_asked_lem (at_end_of h.samples i) (sample_words_at bs (samples_at + 20 * i)) r.0 r.1, r.2)

  pub offset_past : (header_at bs).samples ≤ i → None ≡ offset_in (nth (path_of bs).samples i)
  offset_past l = ap offset_in (sample_past l)

  pub offset_is : i < (header_at bs).samples → Some (to_z w32 (be32_at bs (samples_at + 20 * i + 16))) ≡ offset_in (nth (path_of bs).samples i)
  offset_is l = let r = sample_found l in ap (λ (s : Sample). Some s.q) r.1.is ∙ ap offset_in (sym r.2)
