-- What is released is the settled job's own pair, and so the greatest that keeps everything in force.
use Rattle.std.proofs.Common.{◌≡◌, ℕ, ◌≤◌, List, ◌++◌, length, take, drop, sym, ap, ◌∙◌, subst}
use Rattle.std.proofs.lemmas.List.{length-take-le}
use Rattle.runs.specs.declared.stage.Make.TheVariants.{Classes, Speeds}
use Rattle.runs.specs.declared.stage.Stage.TheVariants.{Settled}
use Rattle.runs.specs.InForce.{in_force}
use Rattle.runs.specs.Keeping.{Pair, Greatest, own}
use Rattle.job.specs.Holding.{Held, count, whole_of, setting_of}
use Rattle.job.specs.Whole.{sheets_of}
use Rattle.job.proofs.Lawful.{led_lawful}
use Rattle.setpoint.specs.declared.released.Released.{Released}
use Rattle.setpoint.specs.Frames.{setpoint_bytes_of, frame_size_of}
use Rattle.setpoint.specs.Release.{Releases, pair_of}
use Rattle.setpoint.specs.Sending.{own_pair_of, Spends}
use Rattle.setpoint.specs.Writing.{size_of, frame_of}

module _ (h : Held) (r : Released) (classes_are : r.classes.now ≡ take (count h) h.classes) (speeds_are : r.speeds.now ≡ take (count h) h.speeds) where
  own_pair : pair_of r ≡ own (whole_of h).sheets
  own_pair = ap (λ x. own (sheets_of x r.speeds.now)) classes_are ∙ ap (λ x. own (sheets_of (take (count h) h.classes) x)) speeds_are

  pub releases : h.job.stage ≡ Settled → Releases h r
  releases settled = record {
    classes = classes_are;
    speeds = speeds_are;
    pair = own_pair;
    law = λ a b a_law b_law s cs led. subst (Greatest (setting_of a b h) (in_force (setting_of a b h) s cs)) (sym own_pair) ((led_lawful a b a_law b_law s cs h led).settled settled);
  }

-- what is released and written is the job's own frame
pub spends : (h : Held) (r : Released) (out out' : List ℕ) (size : ℕ) → count h ≤ length h.classes → Releases h r → size ≡ size_of r
    → out' ≡ frame_of r ++ drop (size_of r) out → Spends h out out' size
spends h r out out' size room released size_is memory_is =
    let n : length r.classes.now ≡ count h = ap length released.classes ∙ length-take-le (count h) h.classes room in
    record {
      size_is = size_is ∙ ap frame_size_of n;
      memory = memory_is
          ∙ ap (λ (P : Pair). setpoint_bytes_of (P Classes) (P Speeds) ++ drop (size_of r) out) released.pair
          ∙ ap (λ (k : ℕ). setpoint_bytes_of (own_pair_of h Classes) (own_pair_of h Speeds) ++ drop (frame_size_of k) out) n;
      law = λ a b a_law b_law s cs led. subst (Greatest (setting_of a b h) (in_force (setting_of a b h) s cs)) released.pair (released.law a b a_law b_law s cs led);
    }
