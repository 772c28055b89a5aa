use Rattle.std.proofs.Common.{ℕ, ◌-◌, ◌<◌, ◌≤◌, length}
use Rattle.torque.specs.Rows.{row_at}
use Rattle.motion.proofs.searching.first_by_halves.Given as goal

abbrev pub invariant-loop-low : goal.invariant-loop-low
invariant-loop-low g l =
    let rows = g.R.Rows.rows l.rows in
    (l.low ≤ l.high) × (l.high ≤ length rows) × ((k : ℕ) → k < l.low → (row_at rows k).gap < l.gap) × (l.high < length rows → l.gap ≤ (row_at rows l.high).gap)

abbrev pub decreases-loop-low : goal.decreases-loop-low
decreases-loop-low g l = l.high - l.low
