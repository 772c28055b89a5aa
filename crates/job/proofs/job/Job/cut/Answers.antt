use Rattle.std.proofs.Common.{refl}
use Rattle.sweep.specs.declared.changing.Cutting.TheVariants.{Slack, Lowering, Clash}
use Rattle.job.specs.Changes.{with_sheet}
use Rattle.job.proofs.Cuts.{cuts}
use Rattle.job.proofs.job.Job.cut.Goals as goal

pub returns-in-Slack-clause-cut : goal.returns-in-Slack-clause-cut
returns-in-Slack-clause-cut g c S is =
    let j = c.args.self.now in
    cuts c.args.make c.args.at _ j.stage j.sweep S g.G.Grade.rank c.args.cells.now c.index-cells-at.result c.cut_cell.new.cell c.requires is Slack _
    c.in-Slack.ensures.which c.in-Slack.ensures.cell refl

pub returns-in-Lowering-clause-cut : goal.returns-in-Lowering-clause-cut
returns-in-Lowering-clause-cut g c S is =
    let j = c.args.self.now in
    cuts c.args.make c.args.at _ j.stage j.sweep S g.G.Grade.rank c.args.cells.now c.index-cells-at.result c.cut_cell.new.cell c.requires is Lowering _
    c.in-Lowering.ensures.which c.in-Lowering.ensures.cell (c.reopen.ensures.reopened (with_sheet c.args.make _ S))

pub returns-in-Clash-clause-cut : goal.returns-in-Clash-clause-cut
returns-in-Clash-clause-cut g c S is =
    let j = c.args.self.now in
    cuts c.args.make c.args.at _ j.stage j.sweep S g.G.Grade.rank c.args.cells.now c.index-cells-at.result c.cut_cell.new.cell c.requires is Clash _
    c.in-Clash.ensures.which c.in-Clash.ensures.cell refl
