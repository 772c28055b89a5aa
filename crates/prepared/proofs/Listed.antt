-- The bounds of a path's samples and rows, one by one.
use Rattle.std.proofs.Common.{◌≡◌, ℕ, ◌<◌, length, get_or, arith}
use Rattle.std.proofs.lemmas.List.{length-map, get_or-map}
use Rattle.std.proofs.lemmas.List.FromFn.{length-map-range_with_len, get_or-map-range_with_len}
use Rattle.torque.specs.Rows.{row_at, no_row}
use Rattle.frame.specs.Paths.{Path}
use Rattle.prepared.specs.declared.bounds.SampleBounds.{SampleBounds}
use Rattle.prepared.specs.declared.bounds.RowBounds.{RowBounds}
use Rattle.prepared.specs.Lists.{bounds_at, sample_bounds_of, bounds_of_row, row_bounds_of}

module _ (p : Path) where
  pub length-sample_bounds_of : length (sample_bounds_of p) ≡ length p.samples
  unfolding sample_bounds_of
  length-sample_bounds_of = length-map-range_with_len (bounds_at p) 0 (length p.samples)

  pub sample_bounds_at : (i : ℕ) (d : SampleBounds) → i < length p.samples → get_or (sample_bounds_of p) i d ≡ bounds_at p i
  unfolding sample_bounds_of
  sample_bounds_at i d l = get_or-map-range_with_len (bounds_at p) 0 (length p.samples) i i d l (omega arith)

  pub length-row_bounds_of : length (row_bounds_of p) ≡ length p.rows
  unfolding row_bounds_of
  length-row_bounds_of = length-map p.rows (bounds_of_row p.header.spacing)

  pub row_bounds_at : (k : ℕ) (d : RowBounds) → k < length p.rows → get_or (row_bounds_of p) k d ≡ bounds_of_row p.header.spacing (row_at p.rows k)
  unfolding row_bounds_of
  row_bounds_at k d l = get_or-map (bounds_of_row p.header.spacing) p.rows k no_row d l
