-- What is known of an accepted frame: its header, its size and its records.
use Rattle.std.proofs.Common.{◌≡◌, ℕ, zero, suc, ◌+◌, ◌-◌, ◌≤◌, Bool, true, cond, eqb, ltb, leb, List, [], ◌∷◌, length, get_or, is_ok, None, Ok, Err, Result, sym, refl, ap, ◌∙◌, subst, arith}
use Rattle.std.proofs.lemmas.Bool.{leb-true, eqb-true, lt-ltb, le-ltb, cond-true, cond-false}
use Rattle.std.proofs.lemmas.Bool.Decides.{nat_tests}
use Rattle.words.specs.Words.{be32_at}
use Rattle.record.specs.declared.fault.RecordFault.{RecordFault}
use Rattle.clause.proofs.Questions.{passed, passed_within}
use Rattle.frame.specs.declared.header.Header.{Header}
use Rattle.frame.specs.declared.fault.FrameFault.{FrameFault}
use Rattle.frame.specs.declared.fault.FrameFault.TheVariants as frame
use Rattle.frame.specs.Layout.{frame_size_of}
use Rattle.frame.specs.Records.{fault, records_read, ok_of, record_at_of}
use Rattle.frame.specs.Paths.{Path, header_at, header_read, sample_place, sample_at_of, path_read, accepted}
use Rattle.frame.specs.Views.{shown, path_of, nth}
use Rattle.frame.proofs.Whole.{Held, read_whole}

-- a header that was read is the one that lies there, and the frame has its size
pub record HeaderFacts (bs : List ℕ) (h : Header) : Type 0 where
  pub is : h ≡ header_at bs
  pub long : 15 ≤ length bs
  pub few : 2 ≤ h.samples
  pub many : h.samples ≤ 4096
  pub rowed : h.rows ≤ 8192
  pub spaced : 1 ≤ h.spacing
  pub size : length bs ≡ frame_size_of h.samples h.rows

pub header_facts : (bs : List ℕ) (h : Header) → header_read bs ≡ Ok h → HeaderFacts bs h
header_facts bs h e =
    let a = passed (leb 5 (length bs)) frame.TooShort _ h e in
    let b = passed (eqb (get_or bs 0 0) 1) frame.Version _ h a.1 in
    let c = passed (eqb (be32_at bs 1) (length bs - 5)) frame.Length _ h b.1 in
    let d = passed (leb 10 (be32_at bs 1)) frame.ShortBody _ h c.1 in
    let x = header_at bs in
    let f = passed (leb 2 x.samples) frame.SampleCount _ h d.1 in
    let g = passed (leb x.samples 4096) frame.SampleCount _ h f.1 in
    let i = passed (leb 1 x.spacing) frame.Spacing _ h g.1 in
    let j = passed (leb x.lateral 2147483647) frame.Lateral _ h i.1 in
    let k = passed (leb x.rows 8192) frame.RowCount _ h j.1 in
    let l = passed (eqb (length bs) (frame_size_of x.samples x.rows)) frame.Size _ h k.1 in
    let is : x ≡ h = (let z = l.1 in cc) in
    let long : 15 ≤ length bs = omega (arith, eqb-true (be32_at bs 1) (length bs - 5) c.0, leb-true 10 (be32_at bs 1) d.0) in
    subst (HeaderFacts bs) is (record {
      is = refl;
      long = long;
      few = leb-true 2 x.samples f.0;
      many = leb-true x.samples 4096 g.0;
      rowed = leb-true x.rows 8192 k.0;
      spaced = leb-true 1 x.spacing i.0;
      size = eqb-true (length bs) (frame_size_of x.samples x.rows) l.0;
    })

-- an accepted frame
pub record Yes (bs : List ℕ) : Type 0 where
  pub read : path_read bs ≡ Ok (path_of bs)
  pub header : HeaderFacts bs (path_of bs).header
  pub held : Held bs (header_at bs) (path_of bs)

known : (bs : List ℕ) (r : Result Path FrameFault) → is_ok r ≡ true → r ≡ Ok (shown bs r)
known bs (Ok p) e = refl
known bs (Err f) e = absurd (let z : ◌≡◌ {A = ℕ} 0 1 = cc in omega arith)

pub yes' : (bs : List ℕ) → accepted bs ≡ true → Yes bs
yes' bs e =
    let r = known bs (path_read bs) e in
    let w = read_whole bs (path_of bs) r in
    let f = header_facts bs (path_of bs).header w.0 in
    record { read = r; header = f; held = subst (λ (x : Header). Held bs x (path_of bs)) f.is w.1 }

pub header_is : (bs : List ℕ) → accepted bs ≡ true → header_at bs ≡ (path_of bs).header
header_is bs e = sym (yes' bs e).header.is

pub header_long : (bs : List ℕ) → accepted bs ≡ true → 15 ≤ length bs
header_long bs e = (yes' bs e).header.long

-- the header bounds the records, and the frame is long enough for them
pub header_many : (bs : List ℕ) → accepted bs ≡ true → (header_at bs).samples ≤ 4096
header_many bs e = let y = yes' bs e in subst (λ (h : Header). h.samples ≤ 4096) y.header.is y.header.many

pub header_rowed : (bs : List ℕ) → accepted bs ≡ true → (header_at bs).rows ≤ 8192
header_rowed bs e = let y = yes' bs e in subst (λ (h : Header). h.rows ≤ 8192) y.header.is y.header.rowed

pub header_sized : (bs : List ℕ) → accepted bs ≡ true → length bs ≡ frame_size_of (header_at bs).samples (header_at bs).rows
header_sized bs e = let y = yes' bs e in subst (λ (h : Header). length bs ≡ frame_size_of h.samples h.rows) y.header.is y.header.size

pub path_sized : (bs : List ℕ) → accepted bs ≡ true → length bs ≡ frame_size_of (path_of bs).header.samples (path_of bs).header.rows
path_sized bs e = (yes' bs e).header.size

-- ---- a record by its number

below : (j k : ℕ) → ltb (suc j) (suc k) ≡ ltb j k
below j k = grind (arith, nat_tests)

nth_behind : {T F : Type 0} (read : ℕ → Result T F) (k i : ℕ) (x : T) (xs : List T) → read i ≡ Ok x → ((j : ℕ) → cond (ltb j k) (ok_of (read (i + 1 + j))) None ≡ nth xs j)
    → (j : ℕ) → cond (ltb j (suc k)) (ok_of (read (i + j))) None ≡ nth (x ∷ xs) j
nth_behind {T = T} {F = F} read k i x xs e f zero =
    let z : i + 0 ≡ i = omega arith in
    cond-true (ltb 0 (suc k)) (ok_of (read (i + 0))) None (lt-ltb 0 (suc k) (omega arith)) ∙ ap (λ (n : ℕ). ok_of (read n)) z ∙ ap (λ (r : Result T F). ok_of r) e
nth_behind read k i x xs e f (suc j) =
    let z : i + suc j ≡ i + 1 + j = omega arith in
    ap (λ (b : Bool). cond b (ok_of (read (i + suc j))) None) (below j k) ∙ ap (λ (n : ℕ). cond (ltb j k) (ok_of (read n)) None) z ∙ f j

pub record_nth : {T F : Type 0} (place : ℕ → ℕ) (read : ℕ → Result T F) (k i : ℕ) (xs : List T) → records_read place read k i ≡ Ok xs → (j : ℕ) → cond (ltb j k) (ok_of (read (i + j))) None ≡ nth xs j
record_nth place read zero i [] e j = cond-false (ltb j 0) (ok_of (read (i + j))) None (le-ltb j 0 (omega arith))
record_nth place read zero i (x ∷ xs) e j = absurd (let z : ◌≡◌ {A = ℕ} 0 1 = cc in omega arith)
record_nth {T = T} {F = F} place read (suc k) i xs e j =
    let p = passed_within (fault place i) (read i) _ xs e in
    let q = passed_within (λ (f : RecordFault F). f) (records_read place read k (i + 1)) _ xs p.2 in
    let is : p.0 ∷ q.0 ≡ xs = (let z = q.2 in cc) in
    nth_behind read k i p.0 q.0 p.1 (record_nth place read k (i + 1) q.0 q.1) j ∙ ap (λ (ys : List T). nth ys j) is

-- as an accessor gives it
pub record_is : {T F : Type 0} (place : ℕ → ℕ) (read : ℕ → Result T F) (k : ℕ) (xs : List T) → records_read place read k 0 ≡ Ok xs → (j : ℕ) → record_at_of read k j ≡ nth xs j
record_is place read k xs e j = let z : 0 + j ≡ j = omega arith in ap (λ (n : ℕ). cond (ltb j k) (ok_of (read n)) None) (sym z) ∙ record_nth place read k 0 xs e j

pub sample_is : (bs : List ℕ) (i : ℕ) → accepted bs ≡ true → record_at_of (sample_at_of bs (header_at bs)) (header_at bs).samples i ≡ nth (path_of bs).samples i
sample_is bs i e = record_is sample_place (sample_at_of bs (header_at bs)) (header_at bs).samples _ (yes' bs e).held.samples i
