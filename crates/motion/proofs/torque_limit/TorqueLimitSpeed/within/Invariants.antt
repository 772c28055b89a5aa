use Rattle.std.proofs.Common.{◌≡◌, drop, pos, ◌≤ℤ◌}
use Rattle.std.specs.Int.{int_min}
use Rattle.grade.specs.Ranks.{ranks, speed_rank}
use Rattle.grade.specs.Tops.{speed_top}
use Rattle.limit.specs.Numbers.{clamped, least_asked}
use Rattle.motion.specs.Torques.{allows, least, torque}
use Rattle.motion.proofs.torque_limit.TorqueLimitSpeed.within.Given as goal

-- the number so far and what the rows left allow give the number

abbrev pub invariant-loop-k : goal.invariant-loop-k
invariant-loop-k g l =
    let h = g.R.Rows.spacing l.self.rows in
    let rows = g.R.Rows.rows l.self.rows in
    let p = ranks speed_rank l.cells in
    (least_asked ≤ℤ l.number) × (l.number ≤ℤ pos speed_top)
    × (int_min (clamped l.number) (least (allows h p l.at) (drop l.k rows)) ≡ int_min (clamped l.most) (torque h rows p l.at))

abbrev pub invariant-loop-k-2 : goal.invariant-loop-k-2
invariant-loop-k-2 g l =
    let h = g.R.Rows.spacing l.self.rows in
    let rows = g.R.Rows.rows l.self.rows in
    let p = ranks speed_rank l.cells in
    (least_asked ≤ℤ l.number) × (l.number ≤ℤ pos speed_top)
    × (int_min (clamped l.number) (least (allows h p l.at) (drop l.k rows)) ≡ int_min (clamped l.most) (torque h rows p l.at))
