-- What a prepared frame's memory says of its path, as a limit reads it.
use Rattle.std.proofs.Math.Facts.{to_z-of_z}
use Rattle.std.proofs.Common.{◌≡◌, ℕ, to_z, of_z, SFits, w32, ◌+◌, ◌-◌, ◌<◌, ◌≤◌, List, length, get_or, w64, ℤ, pos, nat_eq, sym, ap, ◌∙◌, arith}
use Rattle.std.proofs.lemmas.List.{length-map}
use Rattle.std.proofs.lemmas.Bool.{ne_eqb, cond-false}
use Rattle.record.specs.declared.sample.Sample.{Sample}
use Rattle.motion.specs.declared.steps.Step.{Step}
use Rattle.motion.specs.Ramps.{no_step}
use Rattle.motion.specs.declared.triple.Triple.{Triple}
use Rattle.motion.specs.Torques.{on_left_of, on_right_of}
use Rattle.torque.specs.Rows.{row_at}
use Rattle.frame.specs.Paths.{Path}
use Rattle.frame.specs.Views.{path_of}
use Rattle.frame.proofs.Accepted.{yes'}
use Rattle.sources.specs.Sources.{speed_step_of, speed_steps, offsets_of, rows_of}
use Rattle.sources.specs.Soundness.{rows_sound}
use Rattle.sources.proofs.Counted.{samples_counted, gaps_counted, rows_counted}
use Rattle.prepared.specs.declared.bounds.SampleBounds.{SampleBounds}
use Rattle.prepared.specs.declared.bounds.RowBounds.{RowBounds}
use Rattle.prepared.specs.declared.view.Prepared.{Prepared}
use Rattle.prepared.specs.Lists.{rows_before, up_to, bounds_at, bounds_of_row}
use Rattle.prepared.proofs.Before.{before_few, before_lower, before_upper}
use Rattle.prepared.proofs.Listed.{length-sample_bounds_of, sample_bounds_at, length-row_bounds_of, row_bounds_at}

abbrev right_triple : RowBounds → Triple
right_triple b = record { own = b.after; near = b.before; constant = b.right }

abbrev left_triple : RowBounds → Triple
left_triple b = record { own = b.before; near = b.after; constant = b.left }

module _ (s : Prepared) where
  abbrev bs : List ℕ
  bs = s.frame.bytes.now

  abbrev p : Path
  p = path_of bs

  abbrev xs : List SampleBounds
  xs = s.samples.now

  abbrev ys : List RowBounds
  ys = s.rows.now

  pub samples_many : length xs ≡ length p.samples
  samples_many = ap length s.sampled ∙ length-sample_bounds_of p

  pub few : length xs ≤ 4096
  few = omega (arith, samples_many, samples_counted bs s.frame.sound, (yes' bs s.frame.sound).header.many)

  pub few_rows : length (rows_of p) ≤ 8192
  few_rows = omega (arith, rows_counted bs s.frame.sound, (yes' bs s.frame.sound).header.rowed)

  pub offsets_many : length xs ≡ length (offsets_of p)
  offsets_many = samples_many ∙ sym (length-map p.samples (λ (x : Sample). x.q))

  pub steps_many : length (speed_steps p) ≡ length xs - 1
  steps_many = omega (arith, length-map p.gaps speed_step_of, gaps_counted bs s.frame.sound, samples_counted bs s.frame.sound, samples_many)

  pub bounds_there : (i : ℕ) (d : SampleBounds) → i < length xs → get_or xs i d ≡ bounds_at p i
  bounds_there i d l = ap (λ (zs : List SampleBounds). get_or zs i d) s.sampled ∙ sample_bounds_at p i d (omega (arith, samples_many))

  pub offset_there : (i : ℕ) (d : SampleBounds) → i < length xs → (get_or xs i d).offset ≡ get_or (offsets_of p) i (pos 0)
  offset_there i d l = ap (λ (b : SampleBounds). b.offset) (bounds_there i d l)

  up_next : (steps : List Step) (i : ℕ) → up_to steps (i + 1) ≡ (get_or steps i no_step).up
  up_next steps i =
      let t = ne_eqb (i + 1) 0 (λ e. omega arith) in
      let n : i + 1 - 1 ≡ i = omega arith in
      cond-false (nat_eq (i + 1) 0) 0 (get_or steps (i + 1 - 1) no_step).up t ∙ ap (λ (k : ℕ). (get_or steps k no_step).up) n

  pub step_there : (i : ℕ) (d : SampleBounds) → i < length (speed_steps p) → record { up = (get_or xs (i + 1) d).up; down = (get_or xs i d).down } ≡ get_or (speed_steps p) i no_step
  step_there i d l =
      let m = steps_many in
      let u : (get_or xs (i + 1) d).up ≡ (get_or (speed_steps p) i no_step).up = ap (λ (b : SampleBounds). b.up) (bounds_there (i + 1) d (omega arith)) ∙ up_next (speed_steps p) i in
      let w : (get_or xs i d).down ≡ (get_or (speed_steps p) i no_step).down = ap (λ (b : SampleBounds). b.down) (bounds_there i d (omega arith)) in
      let t : Step = get_or (speed_steps p) i no_step in
      ap (λ (k : ℕ). let x : Step = record { up = k; down = (get_or xs i d).down } in x) u ∙ ap (λ (k : ℕ). let x : Step = record { up = t.up; down = k } in x) w

  -- ---- the first row at a gap

  pub first_is : (g : ℕ) (d : SampleBounds) → g < length xs → (get_or xs g d).first_row ≡ rows_before g (rows_of p)
  first_is g d l = ap (λ (b : SampleBounds). b.first_row) (bounds_there g d l)

  pub first_within : (g : ℕ) (d : SampleBounds) → g < length xs → (get_or xs g d).first_row ≤ length (rows_of p)
  first_within g d l = omega (arith, first_is g d l, before_few g (rows_of p))

  pub first_before : (g : ℕ) (d : SampleBounds) → g < length xs → (k : ℕ) → k < (get_or xs g d).first_row → (row_at (rows_of p) k).gap < g
  first_before g d l k m =
      let rows = rows_of p in
      let i = first_is g d l in
      before_lower p.header.spacing g rows (rows_sound bs s.frame.sound) k (omega (arith, before_few g rows)) (omega arith)

  pub first_found : (g : ℕ) (d : SampleBounds) → g < length xs → (get_or xs g d).first_row < length (rows_of p) → g ≤ (row_at (rows_of p) (get_or xs g d).first_row).gap
  first_found g d l m =
      let rows = rows_of p in
      let k = (get_or xs g d).first_row in
      before_upper p.header.spacing g rows (rows_sound bs s.frame.sound) k m (omega (arith, first_is g d l))

  -- ---- the two inequalities of a row, each constant as memory holds it

  pub rows_many : length ys ≡ length (rows_of p)
  rows_many = ap length s.rowed ∙ length-row_bounds_of p

  row_there : (k : ℕ) (d : RowBounds) → k < length (rows_of p) → get_or ys k d ≡ bounds_of_row p.header.spacing (row_at (rows_of p) k)
  row_there k d l = ap (λ (zs : List RowBounds). get_or zs k d) s.rowed ∙ row_bounds_at p k d l

  pub right_kept : (k : ℕ) (d : RowBounds) → k < length (rows_of p) → SFits w64 (get_or ys k d).right
      → record { own = (get_or ys k d).after; near = (get_or ys k d).before; constant = to_z w64 (of_z w64 (get_or ys k d).right) } ≡ on_right_of p.header.spacing (row_at (rows_of p) k)
  right_kept k d l f =
      let b = get_or ys k d in
      ap (λ (n : ℤ). let t : Triple = record { own = b.after; near = b.before; constant = n } in t) (to_z-of_z f) ∙ ap right_triple (row_there k d l)

  pub left_kept : (k : ℕ) (d : RowBounds) → k < length (rows_of p) → SFits w64 (get_or ys k d).left
      → record { own = (get_or ys k d).before; near = (get_or ys k d).after; constant = to_z w64 (of_z w64 (get_or ys k d).left) } ≡ on_left_of p.header.spacing (row_at (rows_of p) k)
  left_kept k d l f =
      let b = get_or ys k d in
      ap (λ (n : ℤ). let t : Triple = record { own = b.before; near = b.after; constant = n } in t) (to_z-of_z f) ∙ ap left_triple (row_there k d l)

-- an offset as memory holds it
pub offset_kept : {z q : ℤ} → SFits w32 z → z ≡ q → to_z w32 (of_z w32 z) ≡ q
offset_kept f e = to_z-of_z f ∙ e
