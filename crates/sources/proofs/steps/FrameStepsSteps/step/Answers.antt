use Rattle.std.proofs.Common.{◌∙◌, arith}
use Rattle.std.proofs.lemmas.List.{length-map}
use Rattle.motion.specs.Ramps.{no_step}
use Rattle.frame.specs.Views.{path_of}
use Rattle.sources.proofs.Counted.{gaps_counted}
use Rattle.sources.proofs.Known.{mapped_at}
use Rattle.sources.proofs.steps.FrameStepsSteps.step.Goals as goal

pub known_gap-requires : goal.known_gap-requires
known_gap-requires g c =
    let frame = c.args.self.now.frame in
    omega (arith, c.requires, gaps_counted frame.bytes.now frame.sound, length-map (path_of frame.bytes.now).gaps g.G.GapStep.step_of)

pub returns : goal.returns
returns g c =
    c.step.ensures ∙ mapped_at g.G.GapStep.step_of (path_of c.args.self.now.frame.bytes.now).gaps c.args.gap no_step c.known_gap.result c.known_gap.ensures
