use Rattle.std.proofs.Common.{◌≡◌, ◌≤◌, take}
use Rattle.frame.specs.Views.{path_of}
use Rattle.prepared.specs.Lists.{rows_before, sample_bounds_of}
use Rattle.prepared.proofs.sample_filling.fill_samples.Given as goal

-- so many cells are filled, and no row that is passed over bears on the next
abbrev pub invariant-loop-at : goal.invariant-loop-at
invariant-loop-at l =
    let p = path_of l.frame.bytes.now in
    (take l.at l.front ≡ take l.at (sample_bounds_of p)) × (l.first_row ≤ rows_before l.at p.rows)
