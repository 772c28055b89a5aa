-- A path's limits are lawful, and so is what a job works under with them.
use Rattle.std.proofs.Common.{ℕ, ◌<◌, arith}
use Rattle.std.proofs.lemmas.Int.{ints, clamps}
use Rattle.grade.specs.Tops.{class_top, speed_top}
use Rattle.grade.proofs.Ranking.{at_most_everywhere}
use Rattle.limit.specs.Numbers.{LimitLaw}
use Rattle.limit.specs.NumbersLemmas.{min_mono, min_low, min_high}
use Rattle.motion.specs.AveragesLemmas.{average_low, average_outside, average_mono}
use Rattle.motion.specs.RampsLemmas.{ramp_low, ramp_high, ramp_outside, ramp_mono}
use Rattle.motion.specs.TorquesLemmas.{torque_low, torque_outside, torque_mono}
use Rattle.frame.specs.Paths.{Path}
use Rattle.sources.specs.Sources.{class_steps, speed_steps, offsets_of, rows_of, class_number, speed_number}
use Rattle.runs.specs.Settings.{SettingLaw}
use Rattle.job.specs.Whole.{setting}
use Rattle.job.proofs.Lawful.{lawful_setting}

module _ (path : Path) where
  class_lawful : LimitLaw class_top (class_number path)
  class_lawful =
      let steps = class_steps path in
      record {
        low = λ p i w. ramp_low class_top steps p i;
        high = λ p i w. ramp_high class_top steps p i;
        outside = λ p i w h. ramp_outside class_top steps p i h;
        monotone = λ p q wp wq len le i. ramp_mono class_top steps p q len (at_most_everywhere p q len le) i;
      }

  speed_lawful : LimitLaw speed_top (speed_number path)
  speed_lawful =
      let steps = speed_steps path in
      let qs = offsets_of path in
      let h = path.header.spacing in
      let rows = rows_of path in
      record {
        low = λ p i w. min_low _ _ _ (ramp_low speed_top steps p i) (min_low _ _ _ (average_low qs p i) (torque_low h rows p i));
        high = λ p i w. min_high _ _ _ (ramp_high speed_top steps p i);
        outside = λ p i w k.
            let r = ramp_outside speed_top steps p i k in
            let a = average_outside qs p i k in
            let t = torque_outside h rows p i k in
            omega (arith, ints, clamps);
        monotone = λ p q wp wq len le i.
            let l = at_most_everywhere p q len le in
            min_mono _ _ _ _ (ramp_mono speed_top steps p q len l i) (min_mono _ _ _ _ (average_mono qs p q len l i) (torque_mono h rows p q len l i));
      }

  pub path_lawful : (n : ℕ) → 0 < n → SettingLaw (setting n (class_number path) (speed_number path))
  path_lawful n some = lawful_setting n (class_number path) (speed_number path) some class_lawful speed_lawful
