-- What is known of a record that a view shows.
use Rattle.std.proofs.Common.{◌≡◌, ℕ, ◌+◌, ◌-◌, ◌*◌, ◌<◌, Bool, true, false, cond, ltb, List, length, Some, None, Ok, Err, Result, refl, ap, ◌∙◌, arith}
use Rattle.std.proofs.lemmas.Bool.{ltb-true}
use Rattle.words.specs.Words.{Bytes}
use Rattle.record.specs.declared.sample.Sample.{Sample}
use Rattle.record.specs.declared.gap.Gap.{Gap}
use Rattle.torque.specs.declared.row.Row.{Row}
use Rattle.clause.specs.Clauses.{Legal}
use Rattle.record.specs.Samples.{sample_words_at}
use Rattle.record.specs.Gaps.{gap_words_at}
use Rattle.record.specs.Rows.{row_words_at}
use Rattle.record.proofs.RecordTrips.{SampleFacts, GapFacts, RowFacts}
use Rattle.frame.specs.declared.header.Header.{Header}
use Rattle.frame.specs.Layout.{samples_at, gaps_at, rows_at, frame_size_of}
use Rattle.frame.specs.Records.{ok_of}
use Rattle.frame.specs.Paths.{header_at, sample_place, gap_place, row_place_of, row_around, sample_at_of, gap_at, row_at, accepted}
use Rattle.frame.specs.Views.{path_of, nth}
use Rattle.frame.proofs.Accepted.{yes', record_is}
use Rattle.frame.proofs.Puts.{sample_known, gap_known, row_known}

answered : {T F : Type 0} (b : Bool) (r : Result T F) (x : T) → cond b (ok_of r) None ≡ Some x → (b ≡ true) × (r ≡ Ok x)
answered true (Ok y) x e = (refl, cc)
answered true (Err f) x e = absurd (let z : ◌≡◌ {A = ℕ} 0 1 = cc in omega arith)
answered false r x e = absurd (let z : ◌≡◌ {A = ℕ} 0 1 = cc in omega arith)

-- the size of an accepted frame, by the header that lies in it
pub sized : (bs : List ℕ) → accepted bs ≡ true → length bs ≡ frame_size_of (header_at bs).samples (header_at bs).rows
sized bs e = (yes' bs e).header.size ∙ ap (λ (h : Header). frame_size_of h.samples h.rows) (yes' bs e).header.is

module _ (bs : List ℕ) (b : Bytes bs) (e : accepted bs ≡ true) (i : ℕ) where
  pub sample_shown : (s : Sample) → nth (path_of bs).samples i ≡ Some s → (i < (header_at bs).samples) × SampleFacts (sample_words_at bs (samples_at + 20 * i)) s
  sample_shown s f =
      let h = header_at bs in
      let a = answered (ltb i h.samples) (sample_at_of bs h i) s (record_is sample_place (sample_at_of bs h) h.samples (path_of bs).samples (yes' bs e).held.samples i ∙ f) in
      let l = ltb-true i h.samples a.0 in
      (l, sample_known bs h i b s (omega (arith, sized bs e)) a.1)

  pub gap_shown : (g : Gap) → nth (path_of bs).gaps i ≡ Some g → (i < (header_at bs).samples - 1) × GapFacts (gap_words_at bs (gaps_at (header_at bs).samples + 12 * i)) g
  gap_shown g f =
      let h = header_at bs in
      let a = answered (ltb i (h.samples - 1)) (gap_at bs h i) g (record_is (gap_place h) (gap_at bs h) (h.samples - 1) (path_of bs).gaps (yes' bs e).held.gaps i ∙ f) in
      (ltb-true i (h.samples - 1) a.0, gap_known bs h i b g a.1)

  pub row_shown : (r : Row) → nth (path_of bs).rows i ≡ Some r → (i < (header_at bs).rows) × RowFacts (row_around bs (header_at bs) i) (row_words_at bs (rows_at (header_at bs).samples + 24 * i)) r
  row_shown r f =
      let h = header_at bs in
      let a = answered (ltb i h.rows) (row_at bs h i) r (record_is (row_place_of h) (row_at bs h) h.rows (path_of bs).rows (yes' bs e).held.rows i ∙ f) in
      let l = ltb-true i h.rows a.0 in
      (l, row_known bs h i b r (omega (arith, sized bs e)) a.1)

  pub sample_legal : (s : Sample) → nth (path_of bs).samples i ≡ Some s → Legal s.clause
  sample_legal s f = (sample_shown s f).1.legal
