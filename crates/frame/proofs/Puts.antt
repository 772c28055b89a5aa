-- A record that was read from a frame has, written again, the bytes that it was read from.
use Rattle.std.proofs.Common.{◌≡◌, ℕ, ◌+◌, ◌*◌, ◌≤◌, List, length, Ok, ap, ◌∙◌, arith}
use Rattle.words.specs.Words.{Bytes, slice}
use Rattle.record.specs.declared.sample.Sample.{Sample}
use Rattle.record.specs.declared.gap.Gap.{Gap}
use Rattle.torque.specs.declared.row.Row.{Row}
use Rattle.clause.specs.Clauses.{Legal}
use Rattle.record.specs.Samples.{sample_words_at, words_of_sample, sample_bytes}
use Rattle.record.specs.Gaps.{gap_words_at, words_of_gap, gap_bytes}
use Rattle.record.specs.Rows.{row_words_at, words_of_row, row_bytes}
use Rattle.record.proofs.RecordTrips.{SampleFacts, sample_facts, sample_slice, GapFacts, gap_facts, gap_slice, RowFacts, row_facts, row_slice_lem, word_at}
use Rattle.frame.specs.declared.header.Header.{Header}
use Rattle.frame.specs.Layout.{samples_at, gaps_at, rows_at}
use Rattle.frame.specs.Paths.{at_end_of, sample_at_of, gap_at, row_around, row_at}

module _ (bs : List ℕ) (h : Header) (i : ℕ) (b : Bytes bs) where
  pub sample_known : (s : Sample) → samples_at + 20 * i + 20 ≤ length bs → sample_at_of bs h i ≡ Ok s → SampleFacts (sample_words_at bs (samples_at + 20 * i)) s
  unfolding sample_at_of
  sample_known s l e =
      let at = samples_at + 20 * i in
      sample_facts (at_end_of h.samples i) (sample_words_at bs at) s (word_at bs (at + 4) b (omega arith)) (word_at bs (at + 8) b (omega arith)) (word_at bs (at + 16) b (omega arith)) e

  pub sample_again : (s : Sample) → samples_at + 20 * i + 20 ≤ length bs → sample_at_of bs h i ≡ Ok s → sample_bytes (words_of_sample s) ≡ slice bs (samples_at + 20 * i) 20
  sample_again s l e = ap sample_bytes (sample_known s l e).words ∙ sample_slice bs (samples_at + 20 * i) b l

  pub sample_legal : (s : Sample) → samples_at + 20 * i + 20 ≤ length bs → sample_at_of bs h i ≡ Ok s → Legal s.clause
  sample_legal s l e = (sample_known s l e).legal

  pub gap_known : (g : Gap) → gap_at bs h i ≡ Ok g → GapFacts (gap_words_at bs (gaps_at h.samples + 12 * i)) g
  unfolding gap_at
  gap_known g e = gap_facts (gap_words_at bs (gaps_at h.samples + 12 * i)) g e

  pub gap_again : (g : Gap) → gaps_at h.samples + 12 * i + 12 ≤ length bs → gap_at bs h i ≡ Ok g → gap_bytes (words_of_gap g) ≡ slice bs (gaps_at h.samples + 12 * i) 12
  gap_again g l e = ap gap_bytes (gap_known g e).words ∙ gap_slice bs (gaps_at h.samples + 12 * i) b l

  pub row_known : (r : Row) → rows_at h.samples + 24 * i + 24 ≤ length bs → row_at bs h i ≡ Ok r → RowFacts (row_around bs h i) (row_words_at bs (rows_at h.samples + 24 * i)) r
  unfolding row_at
  row_known r l e =
      let at = rows_at h.samples + 24 * i in
      row_facts (row_around bs h i) (row_words_at bs at) r (record {
        d = word_at bs (at + 4) b (omega arith);
        c = word_at bs (at + 8) b (omega arith);
        g = word_at bs (at + 12) b (omega arith);
        lo = word_at bs (at + 16) b (omega arith);
        hi = word_at bs (at + 20) b (omega arith);
      }) e

  pub row_again : (r : Row) → rows_at h.samples + 24 * i + 24 ≤ length bs → row_at bs h i ≡ Ok r → row_bytes (words_of_row r) ≡ slice bs (rows_at h.samples + 24 * i) 24
  row_again r l e = ap row_bytes (row_known r l e).words ∙ row_slice_lem bs (rows_at h.samples + 24 * i) b l
