use Rattle.std.proofs.Common.{◌≤◌, sym, subst}
use Rattle.frame.specs.declared.header.Header.{Header}
use Rattle.frame.proofs.Accepted.{yes'}
use Rattle.planner.proofs.making.samples.Goals as goal

pub invariant_of-result : goal.invariant_of-result
invariant_of-result c =
    let k = (yes' c.args.frame.bytes.now c.args.frame.sound).header in
    record { least = subst (λ (h : Header). 2 ≤ h.samples) (sym c.header.ensures) k.few; most = subst (λ (h : Header). h.samples ≤ 4096) (sym c.header.ensures) k.many }
