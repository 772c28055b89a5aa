use Rattle.grade.specs.Ranks.{ranks}
use Rattle.limit.specs.NumbersLemmas.{greatest_by}
use Rattle.motion.specs.RampsLemmas.{under_ramp}
use Rattle.motion.proofs.ramp.ramp_greatest.Goals as goal

pub returns : goal.returns
returns g c =
    let rank = g.G.Grade.rank in
    let top = g.G.Grade.top in
    let steps = g.S.Steps.steps c.args.limit.now.steps in
    greatest_by rank top g.met.G.Grade.within _ _ (under_ramp top steps (ranks rank c.args.cells.now) c.args.at) c.evaluate.result c.evaluate.ensures
