use Rattle.std.proofs.Common.{◌-◌, ◌≤◌}
use Rattle.frame.specs.Views.{path_of}
use Rattle.prepared.specs.Lists.{rows_before}
use Rattle.prepared.proofs.sample_filling.first_row_from.Given as goal

abbrev pub invariant-loop-row : goal.invariant-loop-row
invariant-loop-row l = l.row ≤ rows_before l.at (path_of l.frame.bytes.now).rows

abbrev pub decreases-loop-row : goal.decreases-loop-row
decreases-loop-row l = l.rows - l.row
