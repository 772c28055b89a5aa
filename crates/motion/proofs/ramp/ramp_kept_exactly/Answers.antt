use Rattle.motion.specs.RampsLemmas.{keeps_ramp}
use Rattle.motion.proofs.ramp.ramp_kept_exactly.Goals as goal

pub returns : goal.returns
returns g c = keeps_ramp g.G.Grade.top (g.S.Steps.steps c.args.limit.now.steps)
