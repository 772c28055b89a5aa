-- A job made and then called is planned.
use Rattle.std.proofs.Common.{◌≡◌, ℕ, List, [], ◌++◌, length, drop, Result, ap, ◌∙◌, subst}
use Rattle.grade.specs.declared.cell.Cell.{Cell}
use Rattle.grade.specs.declared.class.Class.{Class}
use Rattle.grade.specs.declared.speed.Speed.{Speed}
use Rattle.limit.specs.Numbers.{Number}
use Rattle.runs.specs.Answers.{Answer}
use Rattle.runs.specs.declared.call.Call.{Call}
use Rattle.runs.specs.declared.call.Fault.{Fault}
use Rattle.runs.specs.Making.{Start, made}
use Rattle.runs.specs.Runs.{run, answers}
use Rattle.runs.specs.Law.{RunLaw}
use Rattle.job.specs.declared.job.Job.{Job}
use Rattle.job.specs.Whole.{setting}
use Rattle.job.specs.Holding.{Held, held, whole_of, judged}
use Rattle.job.specs.Calling.{Lawful}
use Rattle.sequence.specs.Running.{Runs}
use Rattle.frame.specs.Paths.{Path}
use Rattle.frame.specs.Views.{path_of}
use Rattle.motion.specs.SpeedLimits.{speed_limit_number}
use Rattle.sources.specs.Sources.{speed_steps, offsets_of, rows_of, class_number, speed_number}
use Rattle.planner.specs.Making.{MadeAs}
use Rattle.planner.specs.Planning.{PlannedAs}
use Rattle.planner.proofs.Makes.{standing}

-- the speed limit whose ramp, averages and rows are those of three paths
abbrev pub speed_limit_of : (ramps averages rows : Path) → Number
speed_limit_of x y z = speed_limit_number (speed_steps x) (offsets_of y) z.header.spacing (rows_of z)

-- cs, ss as handed in, cs₁, ss₁ after the making, cs₂, ss₂ after the calls
module _ (n : ℕ) (s : Start) (a b : Number) (calls : List Call) (cs cs₁ cs₂ : List (Cell Class)) (ss ss₁ ss₂ : List (Cell Speed)) (old new : List Answer) (j₁ j₂ : Job) (r : Result ℕ Fault)
    (m : MadeAs n s cs cs₁ ss ss₁ j₁) (d : Runs a b calls (held j₁ cs₁ ss₁) (held j₂ cs₂ ss₂) old new r) (l : Lawful a b calls (held j₁ cs₁ ss₁) (held j₂ cs₂ ss₂)) where
  abbrev h : Held
  h = held j₁ cs₁ ss₁

  begun : whole_of h ≡ made (setting n a b) s
  unfolding run
  begun = (m.stands a b).job

  pub planned : PlannedAs n s a b calls cs cs₂ ss ss₂ old new j₂
  planned =
      let w = m.stands a b in
      let led = l.leads s [] w.leads in
      record {
        stands = standing n s a b calls cs cs₂ ss ss₂ j₂ (ap (λ k. k.count) d.holds.samples ∙ w.samples_are) led
            (subst (λ k. drop k cs₂ ≡ drop k cs₁) w.samples_are d.holds.past_classes ∙ w.past_classes)
            (subst (λ k. drop k ss₂ ≡ drop k ss₁) w.samples_are d.holds.past_speeds ∙ w.past_speeds)
            (d.holds.long_classes ∙ w.long_classes) (d.holds.long_speeds ∙ w.long_speeds);
        answered = d.answered ∙ ap (λ v. judged v (answers (setting j₁.samples.count a b) calls (whole_of h) ++ drop (length calls) old) (λ _. old)) w.leads.room
            ∙ ap (λ k. answers (setting k a b) calls (whole_of h) ++ drop (length calls) old) w.samples_are
            ∙ ap (λ x. answers (setting n a b) calls x ++ drop (length calls) old) begun;
        law = subst (λ k. RunLaw (setting k a b) s calls (whole_of (held j₂ cs₂ ss₂))) w.samples_are (l.law s [] w.leads);
      }

-- a speed limit that reads the frame's own bytes is the path's
pub own_speed_limit : (Q : Number → Type 0) (bs x y z : List ℕ) → x ≡ bs → y ≡ bs → z ≡ bs
    → Q (speed_limit_of (path_of x) (path_of y) (path_of z)) → Q (speed_number (path_of bs))
own_speed_limit Q bs x y z x-is y-is z-is q =
    subst (λ (w : List ℕ). Q (speed_limit_of (path_of bs) (path_of bs) (path_of w))) z-is
    (subst (λ (w : List ℕ). Q (speed_limit_of (path_of bs) (path_of w) (path_of z))) y-is
    (subst (λ (w : List ℕ). Q (speed_limit_of (path_of w) (path_of y) (path_of z))) x-is q))

-- and so are both limits
pub own_limits : (Q : Number → Number → Type 0) (bs u x y z : List ℕ) → u ≡ bs → x ≡ bs → y ≡ bs → z ≡ bs
    → Q (class_number (path_of u)) (speed_limit_of (path_of x) (path_of y) (path_of z)) → Q (class_number (path_of bs)) (speed_number (path_of bs))
own_limits Q bs u x y z u-is x-is y-is z-is q =
    own_speed_limit (Q (class_number (path_of bs))) bs x y z x-is y-is z-is
    (subst (λ (w : List ℕ). Q (class_number (path_of w)) (speed_limit_of (path_of x) (path_of y) (path_of z))) u-is q)
