use Rattle.std.proofs.Common.{arith}
use Rattle.torque.proofs.Widths.{signed}
use Rattle.torque.proofs.row.Row.weight.Goals as goal

pub returns : goal.returns
returns c = grind (arith, signed)
