use Rattle.setpoint.specs.Roots.{root}
use Rattle.setpoint.proofs.Rooting.{from_next, only, root_is}
use Rattle.setpoint.proofs.speeds.whole_root.Goals as goal

pub returns-clause-root : goal.returns-clause-root
returns-clause-root c =
    let w = c.args.w in
    let s = c.isqrt.result in
    only w s (root w) (from_next w s c.isqrt.ensures.square_le c.isqrt.ensures.next_square_gt) (root_is w)
