use Rattle.job.specs.Holding.{Held, held}
use Rattle.job.proofs.Lawful.{lawful_call}
use Rattle.sequence.proofs.calling.make_call.Goals as goal

pub returns-clause-law : goal.returns-clause-law
returns-clause-law g c =
    let a = g.C.Limit.number c.args.limits.now.classes.now in
    let b = g.S.Limit.number c.args.limits.now.speeds.now in
    let h : Held = held c.args.job.now c.args.classes.now c.args.speeds.now in
    let h' : Held = held c.perform.new.job c.perform.new.classes c.perform.new.speeds in
    lawful_call a b c.lawful.ensures c.lawful-2.ensures c.args.call h h' c.perform.result c.perform.ensures
