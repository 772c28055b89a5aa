use Rattle.std.proofs.Common.{refl}
use Rattle.job.proofs.Beginning.{makes}
use Rattle.job.proofs.job.Job.make.Goals as goal

pub returns : goal.returns
returns c =
    let e = c.begin_both-stage.ensures in
    makes c.args.samples c.args.classes.now c.begin_both-stage.new.classes c.args.speeds.now c.begin_both-stage.new.speeds _ c.in_ok-ask_memory.ensures.room e.classes e.speeds refl refl e.stage
