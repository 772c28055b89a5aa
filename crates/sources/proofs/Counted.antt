-- How many records an accepted frame has.
use Rattle.std.proofs.Common.{◌≡◌, ℕ, ◌-◌, true, List, length, sym, ap, ◌∙◌}
use Rattle.frame.specs.declared.header.Header.{Header}
use Rattle.frame.specs.Paths.{header_at, sample_place, gap_place, row_place_of, accepted}
use Rattle.frame.specs.Views.{path_of}
use Rattle.frame.proofs.Accepted.{yes'}
use Rattle.frame.proofs.Asking.{answered}

module _ (bs : List ℕ) (e : accepted bs ≡ true) where
  pub samples_counted : (path_of bs).header.samples ≡ length (path_of bs).samples
  samples_counted = ap (λ (x : Header). x.samples) (yes' bs e).header.is ∙ sym (answered sample_place _ (header_at bs).samples 0 (path_of bs).samples (yes' bs e).held.samples).counted

  pub gaps_counted : (path_of bs).header.samples - 1 ≡ length (path_of bs).gaps
  gaps_counted = ap (λ (x : Header). x.samples - 1) (yes' bs e).header.is ∙ sym (answered (gap_place (header_at bs)) _ ((header_at bs).samples - 1) 0 (path_of bs).gaps (yes' bs e).held.gaps).counted

  pub rows_counted : (path_of bs).header.rows ≡ length (path_of bs).rows
  rows_counted = ap (λ (x : Header). x.rows) (yes' bs e).header.is ∙ sym (answered (row_place_of (header_at bs)) _ (header_at bs).rows 0 (path_of bs).rows (yes' bs e).held.rows).counted
