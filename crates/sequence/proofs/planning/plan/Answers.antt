use Rattle.sequence.proofs.Plans.{planned}
use Rattle.sequence.proofs.planning.plan.Goals as goal

pub returns : goal.returns
returns g c =
    planned (g.C.Limit.number c.args.limits.now.classes.now) (g.S.Limit.number c.args.limits.now.speeds.now) c.args.samples _ _ c.make.new.classes _ _ c.make.new.speeds _ _ _ c.in_ok-job.job _
    c.run.result c.in_ok-job.ensures c.run.ensures.runs c.run.ensures.law
