use Rattle.std.proofs.Common.{◌≡◌, ◌++◌, map, take, drop}
use Rattle.sweep.specs.Beginnings.{at_cap}
use Rattle.sweep.proofs.beginning.begin.Given as goal

abbrev pub invariant-loop-cell : goal.invariant-loop-cell
invariant-loop-cell g l = l.cells ≡ map at_cap (take l.cell-index l.initial.cells) ++ drop l.cell-index l.initial.cells
