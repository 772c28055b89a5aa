-- The memories hold the path's samples, and the clash is theirs.
use Rattle.std.proofs.Common.{◌≡◌, ◌≤◌, length, ap, ⊎_elim, arith}
use Rattle.frame.specs.Views.{path_of}
use Rattle.furqyzet_c.proofs.clashing.clash_of.Goals as goal

pub returns : goal.returns
returns c =
    let p = path_of c.args.frame.bytes.now in
    let n-is : c.header-n.result.samples ≡ p.header.samples = ap (λ h. h.samples) c.header-n.ensures in
    let long-classes : p.header.samples ≤ length c.args.classes.now = omega (arith, c.if-classes-n.false) in
    let long-speeds : p.header.samples ≤ length c.args.speeds.now = omega (arith, c.if-speeds-n.false) in
    record {
      short = λ o. ⊎_elim (λ h. absurd (omega arith)) (λ h. absurd (omega arith)) o;
      found = λ _ _. (c.clash.result, c.clash.ensures, c.clash_words-2.ensures);
    }
