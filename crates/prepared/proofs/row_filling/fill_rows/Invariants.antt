use Rattle.std.proofs.Common.{◌≡◌, take}
use Rattle.frame.specs.Views.{path_of}
use Rattle.prepared.specs.Lists.{row_bounds_of}
use Rattle.prepared.proofs.row_filling.fill_rows.Given as goal

-- so many cells are filled
abbrev pub invariant-loop-at : goal.invariant-loop-at
invariant-loop-at l = take l.at l.front ≡ take l.at (row_bounds_of (path_of l.frame.bytes.now))
