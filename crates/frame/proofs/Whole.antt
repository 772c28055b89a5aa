-- The whole frame read: its header and then its records.
use Rattle.std.proofs.Common.{◌≡◌, ℕ, ◌-◌, List, Ok, Err, Result, sym, refl, ap, ◌∙◌, subst, arith}
use Rattle.clause.specs.Asking.{within}
use Rattle.clause.proofs.Questions.{passed_within}
use Rattle.frame.specs.declared.header.Header.{Header}
use Rattle.frame.specs.declared.fault.FrameFault.{FrameFault}
use Rattle.frame.specs.declared.fault.FrameFault.TheVariants as frame
use Rattle.frame.specs.Records.{records_read, done}
use Rattle.frame.specs.Paths.{Path, header_read, sample_place, gap_place, row_place_of, sample_at_of, gap_at, row_at, body_read, header_of, path_read}

-- what an accepted body holds: all the records of its header
pub record Held (bs : List ℕ) (h : Header) (p : Path) : Type 0 where
  pub header : p.header ≡ h
  pub samples : records_read sample_place (sample_at_of bs h) h.samples 0 ≡ Ok p.samples
  pub gaps : records_read (gap_place h) (gap_at bs h) (h.samples - 1) 0 ≡ Ok p.gaps
  pub rows : records_read (row_place_of h) (row_at bs h) h.rows 0 ≡ Ok p.rows

pub held : (bs : List ℕ) (h : Header) (p : Path) → body_read bs h ≡ Ok p → Held bs h p
held bs h p e =
    let s = passed_within frame.Sample (records_read sample_place (sample_at_of bs h) h.samples 0) _ p e in
    let g = passed_within frame.Gap (records_read (gap_place h) (gap_at bs h) (h.samples - 1) 0) _ p s.2 in
    let r = passed_within frame.Row (records_read (row_place_of h) (row_at bs h) h.rows 0) _ p g.2 in
    let is : ◌≡◌ {A = Path} (record { header = h; samples = s.0; gaps = g.0; rows = r.0 }) p = (let z = r.2 in cc) in
    record {
      header = sym (ap (λ (q : Path). q.header) is);
      samples = s.1 ∙ ap (λ (q : Path). Ok q.samples) is;
      gaps = g.1 ∙ ap (λ (q : Path). Ok q.gaps) is;
      rows = r.1 ∙ ap (λ (q : Path). Ok q.rows) is;
    }

module _ (bs : List ℕ) where
  pub no_header : (f : FrameFault) → header_read bs ≡ Err f → header_of (path_read bs) ≡ Err f
  unfolding path_read
  no_header f e = ap (λ (r : Result Header FrameFault). header_of (within (λ (x : FrameFault). x) r (body_read bs))) e

  behind : (h : Header) → header_read bs ≡ Ok h → path_read bs ≡ body_read bs h
  unfolding path_read
  behind h e = ap (λ (r : Result Header FrameFault). within (λ (x : FrameFault). x) r (body_read bs)) e

  refused : (r : Result Path FrameFault) (f : FrameFault) → done r ≡ Err f → header_of r ≡ Err f
  refused (Ok p) f e = absurd (let z : ◌≡◌ {A = ℕ} 0 1 = cc in omega arith)
  refused (Err g) f e = cc

  pub no_records : (h : Header) (f : FrameFault) → header_read bs ≡ Ok h → done (body_read bs h) ≡ Err f → header_of (path_read bs) ≡ Err f
  no_records h f e d = ap header_of (behind h e) ∙ refused (body_read bs h) f d

  given : (h : Header) (r : Result Path FrameFault) → r ≡ body_read bs h → done r ≡ Ok tt → header_of r ≡ Ok h
  given h (Ok p) is e = ap (λ (x : Header). Ok x) (held bs h p (sym is)).header
  given h (Err g) is e = absurd (let z : ◌≡◌ {A = ℕ} 0 1 = cc in omega arith)

  pub all_records : (h : Header) → header_read bs ≡ Ok h → done (body_read bs h) ≡ Ok tt → header_of (path_read bs) ≡ Ok h
  all_records h e d = ap header_of (behind h e) ∙ given h (body_read bs h) refl d

  -- an accepted frame, by its header and its records
  pub read_whole : (p : Path) → path_read bs ≡ Ok p → (header_read bs ≡ Ok p.header) × Held bs p.header p
  unfolding path_read
  read_whole p e =
      let q = passed_within (λ (x : FrameFault). x) (header_read bs) (body_read bs) p e in
      let h = held bs q.0 p q.2 in
      (q.1 ∙ ap (λ (x : Header). Ok x) (sym h.header), subst (λ (x : Header). Held bs x p) (sym h.header) h)
