-- A record that was read is written as the words, and so as the bytes, that it was read from.
use Rattle.std.proofs.Common.{◌≡◌, ℕ, ◌+◌, ◌^◌, ◌<◌, ◌≤◌, Bool, true, cond, eqb, ltb, leb, List, [], ◌∷◌, ◌++◌, length, get_or, nat_abs, Ok, sym, refl, ap, ◌∙◌, subst, add-zero, add_assoc, arith, w32, to_z, of_z}
use Rattle.std.proofs.lemmas.Bool.{eqb-true, leb-true}
use Rattle.std.proofs.lemmas.Int.{of_z-to_z}
use Rattle.words.specs.Words.{be16_at, be32_at, be16, be32, Bytes, slice}
use Rattle.words.proofs.Slices.{slices, slice_byte, slice16, slice32}
use Rattle.clause.specs.declared.clause.ClauseWords.{ClauseWords}
use Rattle.record.specs.declared.sample.Sample.{Sample}
use Rattle.record.specs.declared.sample.SampleWords.{SampleWords}
use Rattle.record.specs.declared.sample.SampleFault.TheVariants as sample
use Rattle.record.specs.declared.gap.Gap.{Gap}
use Rattle.record.specs.declared.gap.GapWords.{GapWords}
use Rattle.record.specs.declared.gap.GapFault.TheVariants as gap
use Rattle.torque.specs.declared.row.Row.{Row}
use Rattle.torque.specs.Rows.{weight, Sound}
use Rattle.torque.specs.Soundness.{small, weighing, is_sound_lem}
use Rattle.record.specs.declared.row.RowWords.{RowWords}
use Rattle.record.specs.declared.row.RowPlace.{RowPlace}
use Rattle.record.specs.declared.row.RowFault.{RowFault}
use Rattle.record.specs.declared.row.RowFault.TheVariants as row
use Rattle.clause.specs.Clauses.{clause_read, clause_words, Legal}
use Rattle.record.specs.Samples.{sample_words_at, sample_read, words_of_sample, sample_bytes}
use Rattle.record.specs.Gaps.{gap_words_at, gap_read, words_of_gap, gap_bytes}
use Rattle.record.specs.Rows.{row_words_at, row_of, sizes_read, numbers_read, row_read, words_of_row, row_bytes}
use Rattle.clause.proofs.Questions.{passed, passed_within}
use Rattle.clause.proofs.ClauseTrips.{clause_back, clause_legal}

-- a number of 32 bits
abbrev Word : ℕ → Type 0
Word n = n < 2 ^ 32

-- ---- samples

-- what is known of a sample that was read from words
pub record SampleFacts (w : SampleWords) (s : Sample) : Type 0 where
  pub words : words_of_sample s ≡ w
  pub legal : Legal s.clause
  pub class_cap_fits : s.class_cap ≤ 7
  pub class_floor_fits : s.class_floor ≤ 7
  pub speed_floor_fits : s.speed_floor ≤ 2147483647
  pub offset : s.q ≡ to_z w32 w.q

sample_words : (w : SampleWords) (c : ClauseWords) (z q : ℕ) → c ≡ w.clause → z ≡ w.zero → q ≡ w.q
    → ◌≡◌ {A = SampleWords} (record { clause = c; class_cap = w.class_cap; class_floor = w.class_floor; zero = z; speed_floor = w.speed_floor; q = q }) w
sample_words w c z q d e f = λ i. record { clause = d i; class_cap = w.class_cap; class_floor = w.class_floor; zero = e i; speed_floor = w.speed_floor; q = f i }

-- what the questions tell of a sample that was read from words
pub record SampleAsked (w : SampleWords) (s : Sample) : Type 0 where
  pub kind : w.clause.kind ≤ 3
  pub zero_byte : w.zero ≡ 0
  pub class_cap_fits : w.class_cap ≤ 7
  pub class_floor_fits : w.class_floor ≤ 7
  pub clause : clause_read w.clause ≡ Ok s.clause
  pub speed_floor_fits : w.speed_floor ≤ 2147483647
  pub is : ◌≡◌ {A = Sample} (record { clause = s.clause; class_cap = w.class_cap; class_floor = w.class_floor; speed_floor = w.speed_floor; q = to_z w32 w.q }) s

pub sample_asked_lem : (end : Bool) (w : SampleWords) (s : Sample) → sample_read end w ≡ Ok s → SampleAsked w s
sample_asked_lem end w s e =
    let a = passed (leb w.clause.kind 3) sample.Kind _ s e in
    let b = passed (eqb w.zero 0) sample.ZeroByte _ s a.1 in
    let d = passed (leb w.class_cap 7) sample.ClassCap _ s b.1 in
    let f = passed (leb w.class_floor 7) sample.ClassFloor _ s d.1 in
    let g = passed_within sample.Clause (clause_read w.clause) _ s f.1 in
    let h = passed (leb w.speed_floor 2147483647) sample.SpeedFloor _ s g.2 in
    let l = passed (cond end (eqb w.q 0) true) sample.EndOffset _ s h.1 in
    let is : ◌≡◌ {A = Sample} (record { clause = g.0; class_cap = w.class_cap; class_floor = w.class_floor; speed_floor = w.speed_floor; q = to_z w32 w.q }) s = (let z = l.1 in cc) in
    subst (SampleAsked w) is (record {
      kind = leb-true w.clause.kind 3 a.0;
      zero_byte = eqb-true w.zero 0 b.0;
      class_cap_fits = leb-true w.class_cap 7 d.0;
      class_floor_fits = leb-true w.class_floor 7 f.0;
      clause = g.1;
      speed_floor_fits = leb-true w.speed_floor 2147483647 h.0;
      is = refl;
    })

pub sample_facts : (end : Bool) (w : SampleWords) (s : Sample) → Word w.clause.first → Word w.clause.second → Word w.q → sample_read end w ≡ Ok s → SampleFacts w s
sample_facts end w s first second q e =
    let a = sample_asked_lem end w s e in
    subst (SampleFacts w) a.is (record {
      words = sample_words w (clause_words s.clause) 0 (of_z w32 (to_z w32 w.q)) (clause_back w.clause s.clause first second a.kind a.clause) (sym a.zero_byte) (of_z-to_z w32 w.q q);
      legal = clause_legal w.clause s.clause first second a.kind a.clause;
      class_cap_fits = a.class_cap_fits;
      class_floor_fits = a.class_floor_fits;
      speed_floor_fits = a.speed_floor_fits;
      offset = refl;
    })

-- ---- gaps

pub record GapFacts (w : GapWords) (g : Gap) : Type 0 where
  pub words : words_of_gap g ≡ w
  pub rise : g.rise ≤ 7
  pub fall : g.fall ≤ 7
  pub up : g.up ≤ 2147483647
  pub down : g.down ≤ 2147483647

gap_words : (w : GapWords) (z : ℕ) → z ≡ w.zero → ◌≡◌ {A = GapWords} (record { gap = w.gap; zero = z }) w
gap_words w z e = λ i. record { gap = w.gap; zero = e i }

pub gap_facts : (w : GapWords) (g : Gap) → gap_read w ≡ Ok g → GapFacts w g
gap_facts w g e =
    let a = passed (leb w.gap.rise 7) gap.Rise _ g e in
    let b = passed (leb w.gap.fall 7) gap.Fall _ g a.1 in
    let c = passed (eqb w.zero 0) gap.ZeroBytes _ g b.1 in
    let d = passed (leb w.gap.up 2147483647) gap.Up _ g c.1 in
    let f = passed (leb w.gap.down 2147483647) gap.Down _ g d.1 in
    let is : w.gap ≡ g = (let z = f.1 in cc) in
    subst (GapFacts w) is (record {
      words = gap_words w 0 (sym (eqb-true w.zero 0 c.0));
      rise = leb-true w.gap.rise 7 a.0;
      fall = leb-true w.gap.fall 7 b.0;
      up = leb-true w.gap.up 2147483647 d.0;
      down = leb-true w.gap.down 2147483647 f.0;
    })

-- ---- torque rows

-- what the questions tell of a row that was read from words
pub record RowAsked (p : RowPlace) (w : RowWords) (r : Row) : Type 0 where
  pub row : r ≡ row_of w
  pub zero_bytes : w.zero ≡ 0
  pub gap : r.gap + 2 ≤ p.samples
  pub order : p.gap_before ≤ r.gap
  pub sound : Sound p.spacing r

pub record RowFacts (p : RowPlace) (w : RowWords) (r : Row) : Type 0 where
  pub words : words_of_row r ≡ w
  pub asked : RowAsked p w r

pub record RowWordsFit (w : RowWords) : Type 0 where
  pub d : Word w.d
  pub c : Word w.c
  pub g : Word w.g
  pub lo : Word w.lo
  pub hi : Word w.hi

row_words : (w : RowWords) → RowWordsFit w → 0 ≡ w.zero → words_of_row (row_of w) ≡ w
row_words w f z = λ i. record { gap = w.gap; zero = z i; d = of_z-to_z w32 w.d f.d i; c = of_z-to_z w32 w.c f.c i; g = of_z-to_z w32 w.g f.g i; lo = of_z-to_z w32 w.lo f.lo i; hi = of_z-to_z w32 w.hi f.hi i }

pub row_asked_lem : (p : RowPlace) (w : RowWords) (r : Row) → row_read p w ≡ Ok r → RowAsked p w r
unfolding numbers_read
row_asked_lem p w r e =
    let a = passed (leb (w.gap + 2) p.samples) row.Gap _ r e in
    let b = passed (eqb w.zero 0) row.ZeroBytes _ r a.1 in
    let c = passed (leb p.gap_before w.gap) row.Order _ r b.1 in
    let t = row_of w in
    let n = passed_within (λ (f : RowFault). f) (sizes_read t) _ r c.1 in
    let d = passed (small t.d) row.D _ tt n.1 in
    let k = passed (small t.c) row.C _ tt d.1 in
    let g = passed (small t.g) row.G _ tt k.1 in
    let l = passed (small t.lo) row.Lo _ tt g.1 in
    let h = passed (small t.hi) row.Hi _ tt l.1 in
    let x = passed (ltb 0 (nat_abs t.d)) row.NoD _ r n.2 in
    let y = passed (weighing t.d (weight p.spacing t)) row.Weight _ r x.1 in
    let is : t ≡ r = (let z = y.1 in cc) in
    subst (RowAsked p w) is (record {
      row = refl;
      zero_bytes = eqb-true w.zero 0 b.0;
      gap = leb-true (w.gap + 2) p.samples a.0;
      order = leb-true p.gap_before w.gap c.0;
      sound = is_sound_lem p.spacing t (grind (arith, d.0, k.0, g.0, l.0, h.0, x.0, y.0));
    })

pub row_facts : (p : RowPlace) (w : RowWords) (r : Row) → RowWordsFit w → row_read p w ≡ Ok r → RowFacts p w r
row_facts p w r fit e = let a = row_asked_lem p w r e in record { words = ap words_of_row a.row ∙ row_words w fit (sym a.zero_bytes); asked = a }

-- ---- bytes

-- a number read from bytes fits its width
pub word_at : (bs : List ℕ) (at : ℕ) → Bytes bs → at + 4 ≤ length bs → Word (be32_at bs at)
word_at bs at b h =
    let w = b at (omega arith) in
    let x = b (at + 1) (omega arith) in
    let y = b (at + 2) (omega arith) in
    let z = b (at + 3) (omega arith) in
    omega arith

module _ (bs : List ℕ) (at : ℕ) (b : Bytes bs) where
  -- the slice from a field on: the field's bytes, and the slice from the next field on
  field : (o j k : ℕ) (vs rest : List ℕ) → vs ≡ slice bs (at + o) j → rest ≡ slice bs (at + (o + j)) k → vs ++ rest ≡ slice bs (at + o) (j + k)
  field o j k vs rest e f =
      ap (λ (z : List ℕ). z ++ rest) e ∙ ap (λ (z : List ℕ). slice bs (at + o) j ++ z) f
      ∙ ap (λ (z : ℕ). slice bs (at + o) j ++ slice bs z k) (sym (add_assoc at o j)) ∙ slices bs (at + o) j k

  pub field8 : (o k : ℕ) (rest : List ℕ) → at + o < length bs → rest ≡ slice bs (at + (o + 1)) k → get_or bs (at + o) 0 ∷ rest ≡ slice bs (at + o) (1 + k)
  field8 o k rest h f = field o 1 k (get_or bs (at + o) 0 ∷ []) rest (slice_byte bs (at + o) h) f

  pub field16 : (o k : ℕ) (rest : List ℕ) → at + o + 2 ≤ length bs → rest ≡ slice bs (at + (o + 2)) k → be16 (be16_at bs (at + o)) ++ rest ≡ slice bs (at + o) (2 + k)
  field16 o k rest h f = field o 2 k (be16 (be16_at bs (at + o))) rest (slice16 bs (at + o) b h) f

  pub field32 : (o k : ℕ) (rest : List ℕ) → at + o + 4 ≤ length bs → rest ≡ slice bs (at + (o + 4)) k → be32 (be32_at bs (at + o)) ++ rest ≡ slice bs (at + o) (4 + k)
  field32 o k rest h f = field o 4 k (be32 (be32_at bs (at + o))) rest (slice32 bs (at + o) b h) f

  whole : (k : ℕ) → slice bs (at + 0) k ≡ slice bs at k
  whole k = rw add-zero refl

  pub sample_slice : at + 20 ≤ length bs → sample_bytes (sample_words_at bs at) ≡ slice bs at 20
  sample_slice h =
      field8 0 19 _ (omega arith) (field8 1 18 _ (omega arith) (field8 2 17 _ (omega arith) (field8 3 16 _ (omega arith)
      (field32 4 12 _ (omega arith) (field32 8 8 _ (omega arith) (field32 12 4 _ (omega arith) (slice32 bs (at + 16) b (omega arith))))))))
      ∙ whole 20

  pub gap_slice : at + 12 ≤ length bs → gap_bytes (gap_words_at bs at) ≡ slice bs at 12
  gap_slice h =
      field8 0 11 _ (omega arith) (field8 1 10 _ (omega arith) (field16 2 8 _ (omega arith)
      (field32 4 4 _ (omega arith) (slice32 bs (at + 8) b (omega arith)))))
      ∙ whole 12

  pub row_slice_lem : at + 24 ≤ length bs → row_bytes (row_words_at bs at) ≡ slice bs at 24
  row_slice_lem h =
      field16 0 22 _ (omega arith) (field16 2 20 _ (omega arith) (field32 4 16 _ (omega arith) (field32 8 12 _ (omega arith)
      (field32 12 8 _ (omega arith) (field32 16 4 _ (omega arith) (slice32 bs (at + 20) b (omega arith)))))))
      ∙ whole 24
