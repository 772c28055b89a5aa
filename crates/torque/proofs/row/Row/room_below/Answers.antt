use Rattle.std.proofs.Common.{arith}
use Rattle.torque.proofs.Widths.{signed}
use Rattle.torque.proofs.row.Row.room_below.Goals as goal

pub returns-clause-value : goal.returns-clause-value
returns-clause-value c = grind (arith, signed)
