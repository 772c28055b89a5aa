use Rattle.frame.specs.Views.{path_of}
use Rattle.sequence.specs.Running.{placed}
use Rattle.planner.specs.Starts.{start_from}
use Rattle.planner.proofs.Plans.{planned}
use Rattle.planner.proofs.planning.plan_under.Goals as goal

pub returns : goal.returns
returns g c =
    let p = path_of c.args.bytes.now in
    let made = c.in_ok-job.ensures in
    let limits = c.args.limits.now in
    record {
      granted = made.granted;
      planned = planned p.header.samples (start_from p) (g.C.Limit.number limits.classes.now) (g.S.Limit.number limits.speeds.now) (placed c.args.calls.now c.args.answers.now)
          c.args.classes.now _ _ c.args.speeds.now _ _ c.args.answers.now _ _ _ _ made.made c.run.ensures.runs c.run.ensures.law;
    }
