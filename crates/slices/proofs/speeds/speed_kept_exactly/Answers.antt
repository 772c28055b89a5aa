use Rattle.torque.specs.Soundness.{are_sound_lem}
use Rattle.motion.proofs.SpeedLimits.{keeps_speed_limit}
use Rattle.slices.proofs.speeds.speed_kept_exactly.Goals as goal

pub returns : goal.returns
returns c = let r = c.args.rows in keeps_speed_limit _ _ r.h r.rows.now (are_sound_lem r.h r.rows.now r.sound)
