use Rattle.std.proofs.Common.{◌≡◌, ◌*◌, ◌^◌, ◌≤◌, take, sum_by}
use Rattle.sweep.proofs.totalling.total.Given as goal

abbrev pub invariant-loop-cell : goal.invariant-loop-cell
invariant-loop-cell g l = (l.sum ≡ sum_by (λ c. g.G.Grade.rank c.value) (take l.cell-index l.cells)) × (l.sum ≤ 2 ^ 32 * l.cell-index)
