-- What an accepted frame's records say of its samples and rows.
use Rattle.std.proofs.Common.{◌≡◌, ℕ, ◌+◌, ◌-◌, ◌<◌, ◌≤◌, true, List, length, map, get_or, Some, sym, ap, ◌∙◌, subst, arith}
use Rattle.std.proofs.lemmas.List.{length-map, get_or_past}
use Rattle.record.specs.declared.gap.Gap.{Gap}
use Rattle.torque.specs.declared.row.Row.{Row}
use Rattle.torque.specs.Rows.{no_row, Sound}
use Rattle.motion.specs.declared.steps.Step.{Step}
use Rattle.motion.specs.Ramps.{no_step}
use Rattle.frame.specs.Paths.{accepted}
use Rattle.frame.specs.Views.{path_of, nth}
use Rattle.sources.specs.Sources.{speed_step_of, speed_steps}
use Rattle.sources.specs.Soundness.{nth-slice_index_or, rows_sound}
use Rattle.sources.proofs.Counted.{samples_counted, gaps_counted, rows_counted}
use Rattle.sources.proofs.Known.{mapped_at}
use Rattle.prepared.specs.Lists.{rows_before, down_from, sample_bounds_of, row_bounds_of}
use Rattle.prepared.proofs.Before.{before_few, before_yes, before_no}
use Rattle.prepared.proofs.Listed.{length-sample_bounds_of, length-row_bounds_of}

step_there : (gaps : List Gap) (i : ℕ) (g : Gap) → Some g ≡ nth gaps i → speed_step_of g ≡ get_or (map speed_step_of gaps) i no_step
step_there gaps i g e = mapped_at speed_step_of gaps i no_step g e

module _ (bs : List ℕ) (e : accepted bs ≡ true) where
  pub down_there : (i : ℕ) (g : Gap) → Some g ≡ nth (path_of bs).gaps i → g.down ≡ down_from (speed_steps (path_of bs)) i
  down_there i g is = ap (λ (s : Step). s.down) (step_there (path_of bs).gaps i g is)

  pub up_there : (i : ℕ) (g : Gap) → Some g ≡ nth (path_of bs).gaps i → g.up ≡ (get_or (speed_steps (path_of bs)) i no_step).up
  up_there i g is = ap (λ (s : Step). s.up) (step_there (path_of bs).gaps i g is)

  pub down_past : (i : ℕ) → (path_of bs).header.samples - 1 ≤ i → down_from (speed_steps (path_of bs)) i ≡ 0
  down_past i l = ap (λ (s : Step). s.down) (get_or_past (speed_steps (path_of bs)) i no_step (omega (arith, gaps_counted bs e, length-map (path_of bs).gaps speed_step_of)))

  pub row_sound : (k : ℕ) (r : Row) → Some r ≡ nth (path_of bs).rows k → k < (path_of bs).header.rows → Sound (path_of bs).header.spacing r
  row_sound k r is l =
      subst (Sound (path_of bs).header.spacing) (nth-slice_index_or (path_of bs).rows k r no_row (sym is)) ((rows_sound bs e).sound k (omega (arith, rows_counted bs e)))

  -- a row that is there, at a gap before another, or not before it
  pub row_passed : (g k : ℕ) (r : Row) → Some r ≡ nth (path_of bs).rows k → k < (path_of bs).header.rows → r.gap < g → k + 1 ≤ rows_before g (path_of bs).rows
  row_passed g k r is l h =
      let there = nth-slice_index_or (path_of bs).rows k r no_row (sym is) in
      omega (arith, before_yes (path_of bs).header.spacing g (path_of bs).rows (rows_sound bs e) k (omega (arith, rows_counted bs e)) (rw there h))

  pub row_stays : (g k : ℕ) (r : Row) → Some r ≡ nth (path_of bs).rows k → k < (path_of bs).header.rows → g ≤ r.gap → rows_before g (path_of bs).rows ≤ k
  row_stays g k r is l h =
      let there = nth-slice_index_or (path_of bs).rows k r no_row (sym is) in
      before_no (path_of bs).header.spacing g (path_of bs).rows (rows_sound bs e) k (omega (arith, rows_counted bs e)) (rw there h)

  pub rows_ended : (g k : ℕ) → (path_of bs).header.rows ≤ k → rows_before g (path_of bs).rows ≤ k
  rows_ended g k l = omega (arith, rows_counted bs e, before_few g (path_of bs).rows)

  pub samples_long : length (sample_bounds_of (path_of bs)) ≡ (path_of bs).header.samples
  samples_long = length-sample_bounds_of (path_of bs) ∙ sym (samples_counted bs e)

  pub rows_long : length (row_bounds_of (path_of bs)) ≡ (path_of bs).header.rows
  rows_long = length-row_bounds_of (path_of bs) ∙ sym (rows_counted bs e)
