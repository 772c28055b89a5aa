-- An accepted frame's header and records, written again, are its bytes.
use Rattle.std.proofs.Common.{◌≡◌, ℕ, zero, suc, ◌+◌, ◌-◌, ◌*◌, ◌<◌, ◌≤◌, true, cond, eqb, leb, List, [], ◌∷◌, ◌++◌, length, get_or, drop, is_ok, Ok, Err, Result, sym, refl, ap, ◌∙◌, subst, add_assoc, mul-zero, mul-one, mul-add, arith}
use Rattle.std.proofs.lemmas.List.{take_all}
use Rattle.std.proofs.lemmas.Bool.{eqb-true, le-leb, lt-leb, cond-true, cond-false}
use Rattle.std.specs.List.{flat_map}
use Rattle.words.specs.Words.{be32_at, be16, be32, Bytes, slice, written}
use Rattle.words.proofs.Slices.{slices, slice16}
use Rattle.words.proofs.Writes.{slices_written}
use Rattle.record.specs.declared.fault.RecordFault.{RecordFault}
use Rattle.record.specs.declared.sample.Sample.{Sample}
use Rattle.record.specs.declared.gap.Gap.{Gap}
use Rattle.torque.specs.declared.row.Row.{Row}
use Rattle.record.specs.Samples.{words_of_sample, sample_bytes}
use Rattle.record.specs.Gaps.{words_of_gap, gap_bytes}
use Rattle.record.specs.Rows.{words_of_row, row_bytes}
use Rattle.clause.proofs.Questions.{passed, passed_within}
use Rattle.record.proofs.RecordTrips.{field8, field16, field32}
use Rattle.frame.specs.declared.header.Header.{Header}
use Rattle.frame.specs.declared.fault.FrameFault.TheVariants as frame
use Rattle.frame.specs.Layout.{samples_at, gaps_at, rows_at, frame_size_of}
use Rattle.frame.specs.Records.{fault, records_read}
use Rattle.frame.specs.Paths.{header_at, header_read, sample_place, gap_place, row_place_of, sample_at_of, gap_at, row_at, path_read, accepted}
use Rattle.frame.specs.Views.{path_of}
use Rattle.frame.specs.declared.writing.WriteFault.TheVariants.{Memory}
use Rattle.frame.specs.Writes.{header_bytes_of, path_bytes, Rewritable, fronted, Writes}
use Rattle.frame.proofs.Accepted.{header_facts, yes'}
use Rattle.frame.proofs.Whole.{read_whole}
use Rattle.frame.proofs.Puts.{sample_again, gap_again, row_again}

-- ---- records

ok_is : {T F : Type 0} (r : Result T F) (x : T) → r ≡ Ok x → is_ok r ≡ true
ok_is r x e = ap is_ok e

all_ok : {T F : Type 0} (place : ℕ → ℕ) (read : ℕ → Result T F) (k i : ℕ) (xs : List T) → records_read place read k i ≡ Ok xs → (j : ℕ) → j < k → is_ok (read (i + j)) ≡ true
all_ok place read zero i xs e j l = absurd (omega arith)
all_ok {T = T} {F = F} place read (suc k) i xs e zero l =
    let p = passed_within (fault place i) (read i) _ xs e in
    let z : i + 0 ≡ i = omega arith in
    ap (λ (n : ℕ). is_ok (read n)) z ∙ ok_is (read i) p.0 p.1
all_ok {T = T} {F = F} place read (suc k) i xs e (suc j) l =
    let p = passed_within (fault place i) (read i) _ xs e in
    let q = passed_within (λ (f : RecordFault F). f) (records_read place read k (i + 1)) _ xs p.2 in
    let z : i + suc j ≡ i + 1 + j = omega arith in
    ap (λ (n : ℕ). is_ok (read n)) z ∙ all_ok place read k (i + 1) q.0 q.1 j (omega arith)

pub each_ok : {T F : Type 0} (place : ℕ → ℕ) (read : ℕ → Result T F) (k : ℕ) (xs : List T) → records_read place read k 0 ≡ Ok xs → (j : ℕ) → j < k → is_ok (read j) ≡ true
each_ok place read k xs e j l = let z : 0 + j ≡ j = omega arith in ap (λ (n : ℕ). is_ok (read n)) (sym z) ∙ all_ok place read k 0 xs e j l

module _ {T F : Type 0} (bs : List ℕ) (place : ℕ → ℕ) (read : ℕ → Result T F) (encode : T → List ℕ) (start size : ℕ) where
  all_bytes : (k i : ℕ) (xs : List T) → ((j : ℕ) (x : T) → j < i + k → read j ≡ Ok x → encode x ≡ slice bs (start + size * j) size)
      → records_read place read k i ≡ Ok xs → flat_map encode xs ≡ slice bs (start + size * i) (size * k)
  all_bytes zero i [] f e = ap (slice bs (start + size * i)) (sym (mul-zero size))
  all_bytes zero i (x ∷ xs) f e = absurd (let z : ◌≡◌ {A = ℕ} 0 1 = cc in omega arith)
  all_bytes (suc k) i xs f e =
      let p = passed_within (fault place i) (read i) _ xs e in
      let q = passed_within (λ (g : RecordFault F). g) (records_read place read k (i + 1)) _ xs p.2 in
      let is : p.0 ∷ q.0 ≡ xs = (let z = q.2 in cc) in
      let n : start + size * (i + 1) ≡ start + size * i + size = ap (λ (m : ℕ). start + m) (mul-add size i 1 ∙ ap (λ (m : ℕ). size * i + m) (mul-one size)) ∙ sym (add_assoc start (size * i) size) in
      let m : size + size * k ≡ size * suc k = (let z : 1 + k ≡ suc k = omega arith in ap (λ (a : ℕ). a + size * k) (sym (mul-one size)) ∙ sym (mul-add size 1 k) ∙ ap (λ (a : ℕ). size * a) z) in
      let rest = all_bytes k (i + 1) q.0 (λ j x l. f j x (omega arith)) q.1 in
      ap (flat_map encode) (sym is)
      ∙ ap (λ (z : List ℕ). z ++ flat_map encode q.0) (f i p.0 (omega arith) p.1)
      ∙ ap (λ (z : List ℕ). slice bs (start + size * i) size ++ z) (rest ∙ ap (λ (a : ℕ). slice bs a (size * k)) n)
      ∙ slices bs (start + size * i) size (size * k)
      ∙ ap (slice bs (start + size * i)) m

-- ---- the header

pub header_again : (bs : List ℕ) (h : Header) → Bytes bs → header_read bs ≡ Ok h → header_bytes_of h ≡ slice bs 0 15
header_again bs h b e =
    let f = header_facts bs h e in
    let a = passed (leb 5 (length bs)) frame.TooShort _ h e in
    let v = passed (eqb (get_or bs 0 0) 1) frame.Version _ h a.1 in
    let c = passed (eqb (be32_at bs 1) (length bs - 5)) frame.Length _ h v.1 in
    let version : get_or bs 0 0 ≡ 1 = eqb-true (get_or bs 0 0) 1 v.0 in
    let size : be32_at bs 1 ≡ frame_size_of h.samples h.rows - 5 = eqb-true (be32_at bs 1) (length bs - 5) c.0 ∙ ap (λ (n : ℕ). n - 5) f.size in
    let l = f.long in
    ap (λ (n : ℕ). n ∷ (be32 (frame_size_of h.samples h.rows - 5) ++ (be16 h.samples ++ (be16 h.spacing ++ (be32 h.lateral ++ be16 h.rows))))) (sym version)
    ∙ ap (λ (n : ℕ). get_or bs 0 0 ∷ (be32 n ++ (be16 h.samples ++ (be16 h.spacing ++ (be32 h.lateral ++ be16 h.rows))))) (sym size)
    ∙ ap (λ (x : Header). get_or bs 0 0 ∷ (be32 (be32_at bs 1) ++ (be16 x.samples ++ (be16 x.spacing ++ (be32 x.lateral ++ be16 x.rows))))) f.is
    ∙ field8 bs 0 b 0 14 _ (omega arith) (field32 bs 0 b 1 10 _ (omega arith) (field16 bs 0 b 5 8 _ (omega arith) (field16 bs 0 b 7 6 _ (omega arith) (field32 bs 0 b 9 2 _ (omega arith) (slice16 bs 13 b (omega arith))))))

-- ---- the whole

pub rewritable : (bs : List ℕ) → Bytes bs → accepted bs ≡ true → Rewritable bs (header_at bs)
rewritable bs b e =
    let y = yes' bs e in
    let w = read_whole bs (path_of bs) y.read in
    let is = y.header.is in
    subst (Rewritable bs) is (record {
      bytes = b;
      few = y.header.few;
      size = y.header.size;
      header = header_again bs (path_of bs).header b w.0;
      samples = each_ok sample_place (sample_at_of bs (path_of bs).header) (path_of bs).header.samples _ w.1.samples;
      gaps = each_ok (gap_place (path_of bs).header) (gap_at bs (path_of bs).header) ((path_of bs).header.samples - 1) _ w.1.gaps;
      rows = each_ok (row_place_of (path_of bs).header) (row_at bs (path_of bs).header) (path_of bs).header.rows _ w.1.rows;
    })

whole : (bs : List ℕ) (k : ℕ) → length bs ≡ k → slice bs 0 k ≡ bs
whole bs k e = take_all k bs (omega arith)

four : (bs hs ss gs rs : List ℕ) (n g t : ℕ) → length bs ≡ 15 + 20 * n + 12 * g + 24 * t
    → hs ≡ slice bs 0 15 → ss ≡ slice bs 15 (20 * n) → gs ≡ slice bs (15 + 20 * n + 12 * 0) (12 * g) → rs ≡ slice bs (15 + 20 * n + 12 * g + 24 * 0) (24 * t)
    → hs ++ (ss ++ (gs ++ rs)) ≡ bs
four bs hs ss gs rs n g t size h s k r =
    let a : 15 + 20 * n + 12 * 0 ≡ 15 + 20 * n = omega arith in
    let b : 15 + 20 * n + 12 * g + 24 * 0 ≡ 15 + 20 * n + 12 * g = omega arith in
    let x : gs ++ rs ≡ slice bs (15 + 20 * n) (12 * g + 24 * t) =
    ap (λ (z : List ℕ). z ++ rs) (k ∙ ap (λ (m : ℕ). slice bs m (12 * g)) a) ∙ ap (λ (z : List ℕ). slice bs (15 + 20 * n) (12 * g) ++ z) (r ∙ ap (λ (m : ℕ). slice bs m (24 * t)) b) ∙ slices bs (15 + 20 * n) (12 * g) (24 * t) in
    let y : ss ++ (gs ++ rs) ≡ slice bs 15 (20 * n + (12 * g + 24 * t)) =
    ap (λ (z : List ℕ). z ++ (gs ++ rs)) s ∙ ap (λ (z : List ℕ). slice bs 15 (20 * n) ++ z) x ∙ slices bs 15 (20 * n) (12 * g + 24 * t) in
    ap (λ (z : List ℕ). z ++ (ss ++ (gs ++ rs))) h ∙ ap (λ (z : List ℕ). slice bs 0 15 ++ z) y ∙ slices bs 0 15 (20 * n + (12 * g + 24 * t))
    ∙ whole bs (15 + (20 * n + (12 * g + 24 * t))) (omega arith)

pub path_again : (bs : List ℕ) → Bytes bs → accepted bs ≡ true → path_bytes (path_of bs) ≡ bs
unfolding path_bytes
path_again bs b e =
    let y = yes' bs e in
    let p = path_of bs in
    let h = p.header in
    let n = h.samples in
    let w = read_whole bs p y.read in
    let size = y.header.size in
    let few = y.header.few in
    let ss = all_bytes bs sample_place (sample_at_of bs h) (λ (s : Sample). sample_bytes (words_of_sample s)) samples_at 20 n 0 p.samples (λ j x l f. sample_again bs h j b x (omega arith) f) w.1.samples in
    let gs = all_bytes bs (gap_place h) (gap_at bs h) (λ (g : Gap). gap_bytes (words_of_gap g)) (gaps_at n) 12 (n - 1) 0 p.gaps (λ j x l f. gap_again bs h j b x (omega arith) f) w.1.gaps in
    let rs = all_bytes bs (row_place_of h) (row_at bs h) (λ (r : Row). row_bytes (words_of_row r)) (rows_at n) 24 h.rows 0 p.rows (λ j x l f. row_again bs h j b x (omega arith) f) w.1.rows in
    four bs (header_bytes_of h) _ _ _ n (n - 1) h.rows size (header_again bs h b w.0) ss gs rs

-- ---- the memory that it is written into

pub all_written : (bs d d₁ d₂ d₃ d₄ : List ℕ) (h : Header) → Rewritable bs h → length bs ≤ length d
    → d₁ ≡ written d 0 (header_bytes_of h)
    → d₂ ≡ written d₁ samples_at (slice bs samples_at (20 * h.samples))
    → d₃ ≡ written d₂ (gaps_at h.samples) (slice bs (gaps_at h.samples) (12 * (h.samples - 1)))
    → d₄ ≡ written d₃ (rows_at h.samples) (slice bs (rows_at h.samples) (24 * h.rows))
    → d₄ ≡ bs ++ drop (length bs) d
all_written bs d d₁ d₂ d₃ d₄ h r l e₁ e₂ e₃ e₄ =
    let n = h.samples in
    let size = r.size in
    let a : d₁ ≡ written d 0 (slice bs 0 15) = e₁ ∙ ap (written d 0) r.header in
    let b : d₂ ≡ written d 0 (slice bs 0 (15 + 20 * n)) =
    e₂ ∙ ap (λ (z : List ℕ). written z 15 (slice bs 15 (20 * n))) a ∙ slices_written d bs 0 15 15 (20 * n) (omega arith) (omega arith) refl in
    let c : d₃ ≡ written d 0 (slice bs 0 (15 + 20 * n + 12 * (n - 1))) =
    e₃ ∙ ap (λ (z : List ℕ). written z (gaps_at n) (slice bs (gaps_at n) (12 * (n - 1)))) b ∙ slices_written d bs 0 (gaps_at n) (15 + 20 * n) (12 * (n - 1)) (omega arith) (omega arith) (omega arith) in
    let f : d₄ ≡ written d 0 (slice bs 0 (15 + 20 * n + 12 * (n - 1) + 24 * h.rows)) =
    e₄ ∙ ap (λ (z : List ℕ). written z (rows_at n) (slice bs (rows_at n) (24 * h.rows))) c ∙ slices_written d bs 0 (rows_at n) (15 + 20 * n + 12 * (n - 1)) (24 * h.rows) (omega arith) (omega arith) (omega arith) in
    let z : 0 + length bs ≡ length bs = omega arith in
    f ∙ ap (written d 0) (whole bs (frame_size_of n h.rows) size) ∙ ap (λ (k : ℕ). bs ++ drop k d) z

module _ (bs out : List ℕ) (b : Bytes bs) (e : accepted bs ≡ true) where
  as_bytes : fronted (path_of bs) out ≡ cond (leb (length bs) (length out)) (bs ++ drop (length bs) out) out
  as_bytes = ap (λ (x : List ℕ). cond (leb (length x) (length out)) (x ++ drop (length x) out) out) (path_again bs b e)

  same : path_read (path_bytes (path_of bs)) ≡ Ok (path_of bs)
  same = ap path_read (path_again bs b e) ∙ (yes' bs e).read

  pub writes_nothing : length out < length bs → Writes bs out out (Err Memory)
  writes_nothing l =
      let t = lt-leb (length bs) (length out) l in
      record {
        answer = sym (cond-false (leb (length bs) (length out)) (Ok (length bs)) (Err Memory) t);
        memory = sym (as_bytes ∙ cond-false (leb (length bs) (length out)) (bs ++ drop (length bs) out) out t);
        same_bytes = path_again bs b e;
        same_records = same;
      }

  pub writes_all : (out' : List ℕ) (k : ℕ) → length bs ≤ length out → k ≡ length bs → out' ≡ bs ++ drop (length bs) out → Writes bs out out' (Ok k)
  writes_all out' k l n f =
      let t = le-leb (length bs) (length out) l in
      record {
        answer = ap (λ (j : ℕ). Ok j) n ∙ sym (cond-true (leb (length bs) (length out)) (Ok (length bs)) (Err Memory) t);
        memory = f ∙ sym (as_bytes ∙ cond-true (leb (length bs) (length out)) (bs ++ drop (length bs) out) out t);
        same_bytes = path_again bs b e;
        same_records = same;
      }
