-- A path frame as a function of its bytes: the records, or the one refusal.
use Rattle.std.specs.Prelude.{ℕ, ◌+◌, ◌-◌, ◌*◌, Bool, true, cond, List, length, is_ok, Ok, Err, Result, ◌==◌, nat_le, slice_index}
use Rattle.words.specs.Words.{be16_at, be32_at}
use Rattle.record.specs.declared.sample.Sample.{Sample}
use Rattle.record.specs.declared.sample.SampleFault.{SampleFault}
use Rattle.record.specs.declared.gap.Gap.{Gap}
use Rattle.record.specs.declared.gap.GapFault.{GapFault}
use Rattle.torque.specs.declared.row.Row.{Row}
use Rattle.record.specs.declared.row.RowFault.{RowFault}
use Rattle.record.specs.declared.row.RowPlace.{RowPlace}
use Rattle.clause.specs.Asking.{ask, within}
use Rattle.record.specs.Samples.{sample_words_at, sample_read}
use Rattle.record.specs.Gaps.{gap_words_at, gap_read}
use Rattle.record.specs.Rows.{row_words_at, row_read}
use Rattle.frame.specs.declared.header.Header.{Header}
use Rattle.frame.specs.declared.fault.FrameFault.{FrameFault}
use Rattle.frame.specs.declared.fault.FrameFault.TheVariants as frame
use Rattle.frame.specs.Layout.{samples_at, gaps_at, rows_at, frame_size_of}
use Rattle.frame.specs.Records.{records_read}

-- ---- the header

abbrev pub header_at : List ℕ → Header
header_at bs = record { samples = be16_at bs 5; spacing = be16_at bs 7; lateral = be32_at bs 9; rows = be16_at bs 13 }

-- what is asked of the header's fields
abbrev pub fields_read : (length : ℕ) → Header → Result Header FrameFault
fields_read size h =
    ask (nat_le 2 h.samples) frame.SampleCount
    (ask (nat_le h.samples 4096) frame.SampleCount
    (ask (nat_le 1 h.spacing) frame.Spacing
    (ask (nat_le h.lateral 2147483647) frame.Lateral
    (ask (nat_le h.rows 8192) frame.RowCount
    (ask (size == frame_size_of h.samples h.rows) frame.Size
    (Ok h))))))

abbrev pub header_read : List ℕ → Result Header FrameFault
header_read bs =
    ask (nat_le 5 (length bs)) frame.TooShort
    (ask (slice_index bs 0 == 1) frame.Version
    (ask (be32_at bs 1 == length bs - 5) frame.Length
    (ask (nat_le 10 (be32_at bs 1)) frame.ShortBody
    (fields_read (length bs) (header_at bs)))))

-- ---- the records, each by its number

-- is it the first sample of n, or the last?
abbrev pub at_end_of : (n i : ℕ) → Bool
at_end_of n i = cond (i == 0) true (i + 1 == n)

-- where each record begins
abbrev pub sample_place : ℕ → ℕ
sample_place i = samples_at + 20 * i

abbrev pub gap_place : Header → ℕ → ℕ
gap_place h i = gaps_at h.samples + 12 * i

abbrev pub row_place_of : Header → ℕ → ℕ
row_place_of h k = rows_at h.samples + 24 * k

unfoldable pub sample_at_of : List ℕ → Header → ℕ → Result Sample SampleFault
sample_at_of bs h i = sample_read (at_end_of h.samples i) (sample_words_at bs (samples_at + 20 * i))

unfoldable pub gap_at : List ℕ → Header → ℕ → Result Gap GapFault
gap_at bs h i = gap_read (gap_words_at bs (gaps_at h.samples + 12 * i))

-- the gap of the row before, 0 before the first
abbrev pub gap_before_of : List ℕ → Header → ℕ → ℕ
gap_before_of bs h k = cond (k == 0) 0 (be16_at bs (rows_at h.samples + 24 * (k - 1)))

abbrev pub row_around : List ℕ → Header → ℕ → RowPlace
row_around bs h k = record { samples = h.samples; spacing = h.spacing; gap_before = gap_before_of bs h k }

unfoldable pub row_at : List ℕ → Header → ℕ → Result Row RowFault
row_at bs h k = row_read (row_around bs h k) (row_words_at bs (rows_at h.samples + 24 * k))

-- ---- the whole frame

-- what an accepted frame holds
pub record Path : Type 0 where
  pub header : Header
  pub samples : List Sample
  pub gaps : List Gap
  pub rows : List Row

-- the records behind a header: all samples are asked first, then all gaps, then all rows
abbrev pub body_read : List ℕ → Header → Result Path FrameFault
body_read bs h =
    within frame.Sample (records_read sample_place (sample_at_of bs h) h.samples 0) (λ ss.
    within frame.Gap (records_read (gap_place h) (gap_at bs h) (h.samples - 1) 0) (λ gs.
    within frame.Row (records_read (row_place_of h) (row_at bs h) h.rows 0) (λ rs.
    Ok (record { header = h; samples = ss; gaps = gs; rows = rs }))))

unfoldable pub path_read : List ℕ → Result Path FrameFault
path_read bs = within (λ f. f) (header_read bs) (body_read bs)

abbrev pub header_of : Result Path FrameFault → Result Header FrameFault
header_of (Ok p) = Ok p.header
header_of (Err f) = Err f

-- does every question say yes?
abbrev pub accepted : List ℕ → Bool
accepted bs = is_ok (path_read bs)
