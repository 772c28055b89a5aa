use Rattle.grade.specs.Ranks.{ranks, speed_rank}
use Rattle.grade.specs.Tops.{speed_top}
use Rattle.limit.specs.NumbersLemmas.{greatest_by}
use Rattle.motion.specs.TorquesLemmas.{under_torque}
use Rattle.motion.proofs.torque_limit.torque_greatest.Goals as goal

pub returns : goal.returns
returns g c =
    let rows = c.args.limit.now.rows in
    greatest_by speed_rank speed_top (λ x. x.ok) _ _
    (λ x l. under_torque (g.R.Rows.spacing rows) (ranks speed_rank c.args.cells.now) c.args.at x l (g.R.Rows.rows rows) (g.R.Rows.sound rows))
    c.allowed.result c.allowed.ensures
