use Rattle.std.proofs.Common.{arith, tests}
use Rattle.torque.proofs.Widths.{signed}
use Rattle.torque.proofs.row.Row.has_sound_weight.Goals as goal

pub returns-then-self-weight : goal.returns-then-self-weight
returns-then-self-weight c = grind (arith, tests, signed)
