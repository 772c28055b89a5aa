use Rattle.job.specs.Holding.{held}
use Rattle.setpoint.proofs.OwnPairs.{releases}
use Rattle.setpoint.proofs.releasing.release.Goals as goal

pub returns : goal.returns
returns c = releases (held c.args.job c.args.classes.now c.args.speeds.now) c.lend.result c.lend.ensures.classes c.lend.ensures.speeds c.requires.settled
