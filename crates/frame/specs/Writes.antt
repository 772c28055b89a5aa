-- The bytes of a path: its header's, then each record's in order.
use Rattle.std.specs.Prelude.{◌≡◌, ℕ, ◌-◌, ◌<◌, ◌≤◌, true, cond, List, ◌∷◌, ◌++◌, length, drop, is_ok, Ok, Err, Result, nat_le}
use Rattle.std.specs.List.{flat_map}
use Rattle.words.specs.Words.{be16, be32, Bytes, slice}
use Rattle.record.specs.declared.sample.Sample.{Sample}
use Rattle.record.specs.declared.gap.Gap.{Gap}
use Rattle.torque.specs.declared.row.Row.{Row}
use Rattle.record.specs.Samples.{words_of_sample, sample_bytes}
use Rattle.record.specs.Gaps.{words_of_gap, gap_bytes}
use Rattle.record.specs.Rows.{words_of_row, row_bytes}
use Rattle.frame.specs.declared.header.Header.{Header}
use Rattle.frame.specs.declared.writing.WriteFault.{WriteFault}
use Rattle.frame.specs.declared.writing.WriteFault.TheVariants.{Memory}
use Rattle.frame.specs.Layout.{frame_size_of}
use Rattle.frame.specs.Paths.{Path, sample_at_of, gap_at, row_at, path_read}
use Rattle.frame.specs.Views.{path_of}

-- version, length, n, h, a, t
abbrev pub header_bytes_of : Header → List ℕ
header_bytes_of h = 1 ∷ (be32 (frame_size_of h.samples h.rows - 5) ++ (be16 h.samples ++ (be16 h.spacing ++ (be32 h.lateral ++ be16 h.rows))))

unfoldable pub path_bytes : Path → List ℕ
path_bytes p =
    header_bytes_of p.header
    ++ (flat_map (λ (s : Sample). sample_bytes (words_of_sample s)) p.samples
    ++ (flat_map (λ (g : Gap). gap_bytes (words_of_gap g)) p.gaps
    ++ flat_map (λ (r : Row). row_bytes (words_of_row r)) p.rows))

-- a frame whose header and records, written again, are its bytes
pub record Rewritable (bs : List ℕ) (h : Header) : Type 0 where
  pub bytes : Bytes bs
  pub few : 2 ≤ h.samples
  pub size : length bs ≡ frame_size_of h.samples h.rows
  pub header : header_bytes_of h ≡ slice bs 0 15
  pub samples : (i : ℕ) → i < h.samples → is_ok (sample_at_of bs h i) ≡ true
  pub gaps : (i : ℕ) → i < h.samples - 1 → is_ok (gap_at bs h i) ≡ true
  pub rows : (i : ℕ) → i < h.rows → is_ok (row_at bs h i) ≡ true

-- memory with a path's bytes in front, where it is long enough; else as it was
abbrev pub fronted : Path → List ℕ → List ℕ
fronted p out = cond (nat_le (length (path_bytes p)) (length out)) (path_bytes p ++ drop (length (path_bytes p)) out) out

-- the accepted frame bs is written into memory, which ends as out'
pub record Writes (bs out out' : List ℕ) (r : Result ℕ WriteFault) : Type 0 where
  -- the path's bytes in front and the rest untouched, or too little memory and nothing changes
  pub answer : r ≡ cond (nat_le (length bs) (length out)) (Ok (length bs)) (Err Memory)
  pub memory : out' ≡ fronted (path_of bs) out
  -- what was read, written again, is the same bytes
  pub same_bytes : path_bytes (path_of bs) ≡ bs
  -- what was written, read again, is the same records
  pub same_records : path_read (path_bytes (path_of bs)) ≡ Ok (path_of bs)

-- the number of the question that each fault answers no
abbrev pub write_question : WriteFault → ℕ
-- does the memory hold the frame?
write_question Memory = 72
