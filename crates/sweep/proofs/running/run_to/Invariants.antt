use Rattle.std.proofs.Common.{◌≡◌, ◌+◌, ◌-◌, ◌≤◌, length}
use Rattle.sweep.specs.Passes.{Passes}
use Rattle.sweep.proofs.running.run_to.Given as goal

-- the visits so far lead from the sweep that was given to the one that has come this far
abbrev pub invariant-loop-left : goal.invariant-loop-left
invariant-loop-left g l =
    let start = l.fn.sweep in
    let visited = l.end - l.left in
    (l.left ≤ l.end)
    × (start.visited + l.lowerings ≤ visited)
    × (length l.cells ≡ length l.initial.cells)
    × Passes g.G.Grade.rank (g.L.Limit.number l.limit) start (record { direction = start.direction; visited = visited; marked = l.marked }) l.initial.cells l.cells (visited - start.visited) l.lowerings

abbrev pub decreases-loop-left : goal.decreases-loop-left
decreases-loop-left g l = l.left
