use Rattle.std.proofs.Common.{refl}
use Rattle.sweep.specs.declared.changing.Lifting.TheVariants.{Slack, Clash}
use Rattle.job.proofs.Cuts.{lifts}
use Rattle.job.proofs.job.Job.lift.Goals as goal

pub returns-in-Slack-clause-lifted : goal.returns-in-Slack-clause-lifted
returns-in-Slack-clause-lifted g c m S is =
    let j = c.args.self.now in
    lifts m c.args.at _ j.stage j.sweep S g.G.Grade.rank c.args.cells.now c.index-cells-at.result c.lift_cell.new.cell c.requires is Slack _
    c.in-Slack.ensures.which c.in-Slack.ensures.cell refl

pub returns-in-Clash-clause-lifted : goal.returns-in-Clash-clause-lifted
returns-in-Clash-clause-lifted g c m S is =
    let j = c.args.self.now in
    lifts m c.args.at _ j.stage j.sweep S g.G.Grade.rank c.args.cells.now c.index-cells-at.result c.lift_cell.new.cell c.requires is Clash _
    c.in-Clash.ensures.which c.in-Clash.ensures.cell refl
