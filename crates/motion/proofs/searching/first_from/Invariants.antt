use Rattle.std.proofs.Common.{ℕ, ◌-◌, ◌<◌, ◌≤◌}
use Rattle.torque.specs.Rows.{row_at}
use Rattle.motion.proofs.searching.first_from.Given as goal

abbrev pub invariant-loop-first : goal.invariant-loop-first
invariant-loop-first g l = (l.low ≤ l.first) × (l.first ≤ l.high)

abbrev pub decreases-loop-first : goal.decreases-loop-first
decreases-loop-first g l = l.first

-- past the lowest place, what lies before is before the gap
abbrev pub invariant-loop-first-2 : goal.invariant-loop-first-2
invariant-loop-first-2 g l =
    let rows = g.R.Rows.rows l.rows in
    (l.low ≤ l.first) × (l.first ≤ l.high) × (l.low < l.first → (k : ℕ) → k < l.first → (row_at rows k).gap < l.gap)

abbrev pub decreases-loop-first-2 : goal.decreases-loop-first-2
decreases-loop-first-2 g l = l.high - l.first
