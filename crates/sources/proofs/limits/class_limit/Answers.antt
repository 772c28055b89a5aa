use Rattle.grade.specs.Tops.{class_top}
use Rattle.motion.specs.RampsLemmas.{keeps_ramp}
use Rattle.frame.specs.Views.{path_of}
use Rattle.sources.specs.Sources.{class_steps}
use Rattle.sources.proofs.limits.class_limit.Goals as goal

pub returns-clause-kept : goal.returns-clause-kept
returns-clause-kept c = keeps_ramp class_top (class_steps (path_of c.args.frame.bytes.now))
