use Rattle.std.proofs.Common.{◌≡◌, drop, pos}
use Rattle.std.specs.Int.{int_min}
use Rattle.grade.specs.Ranks.{ranks, speed_rank}
use Rattle.motion.specs.Torques.{allows, least, torque}
use Rattle.motion.proofs.torque_limit.Torque.allowed.Given as goal

-- the least so far and what the rows left allow give the number
abbrev pub invariant-loop-k : goal.invariant-loop-k
invariant-loop-k g l =
    let h = g.R.Rows.spacing l.self.rows in
    let rows = g.R.Rows.rows l.self.rows in
    let p = ranks speed_rank l.cells in
    int_min (pos (speed_rank l.least)) (least (allows h p l.at) (drop l.k rows)) ≡ torque h rows p l.at
