-- The speed limit is kept exactly by the profiles that keep every step, every average and every row.
use Rattle.std.proofs.Common.{ℕ, List, ℤ}
use Rattle.grade.specs.Tops.{speed_top}
use Rattle.limit.specs.Numbers.{both, KeptExactly}
use Rattle.limit.specs.NumbersLemmas.{keeps_both}
use Rattle.torque.specs.declared.row.Row.{Row}
use Rattle.motion.specs.declared.steps.Step.{Step}
use Rattle.motion.specs.Averages.{average}
use Rattle.motion.specs.Ramps.{ramp}
use Rattle.torque.specs.Rows.{SoundRows}
use Rattle.motion.specs.SpeedLimits.{speed_limit_number, WithinSpeedLimit}
use Rattle.motion.specs.Torques.{torque}
use Rattle.motion.specs.AveragesLemmas.{keeps_average}
use Rattle.motion.specs.RampsLemmas.{keeps_ramp}
use Rattle.motion.specs.TorquesLemmas.{keeps_torque}

pub keeps_speed_limit : (steps : List Step) (qs : List ℤ) (h : ℕ) (rows : List Row) → SoundRows h rows
    → KeptExactly speed_top (speed_limit_number steps qs h rows) (WithinSpeedLimit steps qs h rows)
keeps_speed_limit steps qs h rows s p w =
    let all = keeps_both (ramp speed_top steps) (both (average qs) (torque h rows)) p in
    let two = keeps_both (average qs) (torque h rows) p in
    let ramps = keeps_ramp speed_top steps p w in
    let averages = keeps_average qs p w in
    let torques = keeps_torque h rows s p w in (
      (λ k. let rest = two.0 (all.0 k).1 in record { steps_kept = ramps.0 (all.0 k).0; averages_kept = averages.0 rest.0; rows_kept = torques.0 rest.1 }),
      λ f. all.1 (ramps.1 f.steps_kept, two.1 (averages.1 f.averages_kept, torques.1 f.rows_kept)),
    )
