use Rattle.motion.proofs.SpeedLimits.{keeps_speed_limit}
use Rattle.frame.specs.Views.{path_of}
use Rattle.sources.specs.Sources.{speed_steps, offsets_of, rows_of}
use Rattle.sources.specs.Soundness.{rows_sound}
use Rattle.prepared.proofs.limits.speed_limit.Goals as goal

pub returns-clause-kept : goal.returns-clause-kept
returns-clause-kept c =
    let bs = c.args.prepared.frame.bytes.now in
    let p = path_of bs in
    keeps_speed_limit (speed_steps p) (offsets_of p) p.header.spacing (rows_of p) (rows_sound bs c.args.prepared.frame.sound)
