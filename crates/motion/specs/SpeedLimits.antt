-- The limit of squared speeds: a pair of ramp with a pair of average and torque.
use Rattle.std.specs.Prelude.{ℕ, List, ℤ}
use Rattle.grade.specs.Profiles.{Profile}
use Rattle.grade.specs.Tops.{speed_top}
use Rattle.limit.specs.Numbers.{Number, both}
use Rattle.torque.specs.declared.row.Row.{Row}
use Rattle.motion.specs.declared.steps.Step.{Step}
use Rattle.motion.specs.Averages.{average, WithinAverage}
use Rattle.motion.specs.Ramps.{ramp, WithinSteps}
use Rattle.motion.specs.Rows.{WithinTorque}
use Rattle.motion.specs.Torques.{torque}

abbrev pub speed_limit_number : List Step → List ℤ → ℕ → List Row → Number
speed_limit_number steps qs h rows = both (ramp speed_top steps) (both (average qs) (torque h rows))

-- every step, every average and every row
pub record WithinSpeedLimit (steps : List Step) (qs : List ℤ) (h : ℕ) (rows : List Row) (p : Profile) : Type 0 where
  pub steps_kept : WithinSteps steps p
  pub averages_kept : WithinAverage qs p
  pub rows_kept : WithinTorque h rows p
