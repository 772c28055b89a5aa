-- How many records an accepted frame holds.
use Rattle.std.proofs.Common.{◌≡◌, ◌-◌, ◌≤◌, ℕ, true, List, length, arith}
use Rattle.frame.specs.Paths.{header_at, sample_place, gap_place, row_place_of, sample_at_of, gap_at, row_at, accepted}
use Rattle.frame.specs.Views.{path_of}
use Rattle.frame.proofs.Accepted.{yes', header_many, header_rowed}
use Rattle.frame.proofs.Asking.{answered}

module _ (bs : List ℕ) (e : accepted bs ≡ true) where
  pub few_samples : length (path_of bs).samples ≤ 8192
  few_samples =
      let h = header_at bs in
      let a = answered sample_place (sample_at_of bs h) h.samples 0 (path_of bs).samples (yes' bs e).held.samples in
      omega (arith, a.counted, header_many bs e)

  pub few_gaps : length (path_of bs).gaps ≤ 8192
  few_gaps =
      let h = header_at bs in
      let a = answered (gap_place h) (gap_at bs h) (h.samples - 1) 0 (path_of bs).gaps (yes' bs e).held.gaps in
      omega (arith, a.counted, header_many bs e)

  pub few_rows : length (path_of bs).rows ≤ 8192
  few_rows =
      let h = header_at bs in
      let a = answered (row_place_of h) (row_at bs h) h.rows 0 (path_of bs).rows (yes' bs e).held.rows in
      omega (arith, a.counted, header_rowed bs e)
