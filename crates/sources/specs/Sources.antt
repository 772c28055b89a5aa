-- What the limits of a path read of it, and their numbers.
use Rattle.std.specs.Prelude.{List, map, ℤ}
use Rattle.grade.specs.Profiles.{Profile}
use Rattle.grade.specs.Tops.{class_top}
use Rattle.limit.specs.Numbers.{Number}
use Rattle.torque.specs.declared.row.Row.{Row}
use Rattle.motion.specs.declared.steps.Step.{Step}
use Rattle.motion.specs.Ramps.{ramp, WithinSteps}
use Rattle.motion.specs.SpeedLimits.{speed_limit_number, WithinSpeedLimit as WithinSpeeds}
use Rattle.record.specs.declared.gap.Gap.{Gap}
use Rattle.record.specs.declared.sample.Sample.{Sample}
use Rattle.frame.specs.Paths.{Path}

-- ---- the data

-- of a gap, rise and fall
abbrev pub class_step_of : Gap → Step
class_step_of g = record { up = g.rise; down = g.fall }

-- of a gap, up and down
abbrev pub speed_step_of : Gap → Step
speed_step_of g = record { up = g.up; down = g.down }

abbrev pub class_steps : Path → List Step
class_steps p = map class_step_of p.gaps

abbrev pub speed_steps : Path → List Step
speed_steps p = map speed_step_of p.gaps

-- the offset q of each sample
abbrev pub offsets_of : Path → List ℤ
offsets_of p = map (λ (s : Sample). s.q) p.samples

abbrev pub rows_of : Path → List Row
rows_of p = p.rows

-- ---- the limits

-- of classes: a ramp over rise and fall
abbrev pub class_number : Path → Number
class_number p = ramp class_top (class_steps p)

-- of squared speeds: a pair of a ramp over up and down with a pair of average and torque at the path's spacing
abbrev pub speed_number : Path → Number
speed_number p = speed_limit_number (speed_steps p) (offsets_of p) p.header.spacing (rows_of p)

-- what a profile of classes keeps, and one of squared speeds
abbrev pub WithinClassLimit : Path → Profile → Type 0
WithinClassLimit p = WithinSteps (class_steps p)

abbrev pub WithinSpeedLimit : Path → Profile → Type 0
WithinSpeedLimit p = WithinSpeeds (speed_steps p) (offsets_of p) p.header.spacing (rows_of p)
