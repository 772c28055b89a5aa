-- What release asks and what it gives.
use Rattle.std.specs.Prelude.{◌≡◌, ℕ, ◌≤◌, Bool, true, false, cond, List, take, Ok, Err, Result}
use Rattle.grade.specs.Tops.{class_top, speed_top}
use Rattle.limit.specs.Numbers.{Number, LimitLaw}
use Rattle.runs.specs.declared.call.Call.{Call}
use Rattle.runs.specs.declared.stage.Stage.{Stage}
use Rattle.runs.specs.declared.stage.Stage.TheVariants.{Working, Settled, Impossible}
use Rattle.runs.specs.Calls.{granted}
use Rattle.runs.specs.InForce.{in_force}
use Rattle.runs.specs.Keeping.{Pair, Greatest, own}
use Rattle.runs.specs.Making.{Start}
use Rattle.job.specs.declared.job.Job.{Job}
use Rattle.job.specs.Holding.{Held, count, whole_of, setting_of, room_for, judged, Led}
use Rattle.job.specs.Whole.{sheets_of}
use Rattle.setpoint.specs.declared.fault.SetpointFault.{SetpointFault}
use Rattle.setpoint.specs.declared.fault.SetpointFault.TheVariants.{Sheets, NotSettled}
use Rattle.setpoint.specs.declared.released.Released.{Released}

abbrev pub is_settled : Stage → Bool
is_settled (Working m) = false
is_settled Settled = true
is_settled (Impossible i) = false

-- the questions of release: do memories of so many cells hold the job's samples, and is it settled?
abbrev pub release_asked : Job → (classes speeds : ℕ) → Result (Unit {0}) SetpointFault
release_asked j classes speeds = judged (room_for j.samples.count classes speeds granted) (cond (is_settled j.stage) (Ok tt) (Err NotSettled)) (λ f. Err (Sheets f))

-- what a yes means
pub record Ready (j : Job) (classes speeds : ℕ) : Type 0 where
  pub settled : j.stage ≡ Settled
  pub room_classes : j.samples.count ≤ classes
  pub room_speeds : j.samples.count ≤ speeds

-- the pair that is released
abbrev pub pair_of : Released → Pair
pair_of r = own (sheets_of r.classes.now r.speeds.now)

-- r is what the job of h is released for
pub record Releases (h : Held) (r : Released) : Type 0 where
  -- the cells of its samples
  pub classes : r.classes.now ≡ take (count h) h.classes
  pub speeds : r.speeds.now ≡ take (count h) h.speeds
  -- the pair is the job's own
  pub pair : pair_of r ≡ own (whole_of h).sheets
  -- and, whatever lawful limits, start and calls led to the job, the greatest that keeps everything in force
  pub law : (a b : Number) → LimitLaw class_top a → LimitLaw speed_top b → (s : Start) (cs : List Call) → Led a b s cs h
      → Greatest (setting_of a b h) (in_force (setting_of a b h) s cs) (pair_of r)
