use Rattle.std.proofs.Common.{take, sym}
use Rattle.grade.specs.Ranks.{class_rank, speed_rank}
use Rattle.job.specs.Holding.{Held, held}
use Rattle.job.proofs.Sums.{summed, product_is, suffices}
use Rattle.job.proofs.job.Job.sufficient_allowance.Goals as goal

pub returns : goal.returns
returns c =
    let n = c.args.self.now.samples.count in
    let h : Held = held c.args.self.now c.args.classes.now c.args.speeds.now in
    let classes = summed class_rank (take n h.classes) _ c.total-class_sum.ensures.sum in
    let speeds = summed speed_rank (take n h.speeds) _ c.total-speed_sum.ensures.sum in
    suffices h _ (sym c.in_ok-ask_room.ensures.is) (product_is n _ _ _ _ classes speeds)
