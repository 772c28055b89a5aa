use Rattle.motion.specs.TorquesLemmas.{keeps_torque}
use Rattle.motion.proofs.torque_limit.torque_kept_exactly.Goals as goal

pub returns : goal.returns
returns g c = let rows = c.args.limit.now.rows in keeps_torque (g.R.Rows.spacing rows) (g.R.Rows.rows rows) (g.R.Rows.sound rows)
