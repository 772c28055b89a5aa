use Rattle.job.specs.Holding.{held}
use Rattle.setpoint.proofs.OwnPairs.{spends}
use Rattle.setpoint.proofs.sending.spend.Goals as goal

pub returns : goal.returns
returns c =
    spends (held c.args.job c.args.classes.now c.args.speeds.now) c.release.result c.args.out.now c.put_frame.new.out c.put_frame.result
    c.requires.ready.room_classes c.release.ensures c.put_frame.ensures.size c.put_frame.ensures.memory
