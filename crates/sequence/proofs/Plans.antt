-- A plan: the making, the calls, and the law over both.
use Rattle.std.proofs.Common.{◌≡◌, ℕ, List, [], ◌++◌, length, take, drop, Result, sym, ap, ◌∙◌, subst}
use Rattle.grade.specs.declared.cell.Cell.{Cell}
use Rattle.grade.specs.declared.class.Class.{Class}
use Rattle.grade.specs.declared.speed.Speed.{Speed}
use Rattle.grade.specs.Ranks.{class_rank, speed_rank, ranked_all}
use Rattle.limit.specs.Numbers.{Number}
use Rattle.runs.specs.Answers.{Answer}
use Rattle.runs.specs.declared.call.Call.{Call}
use Rattle.runs.specs.declared.call.Fault.{Fault}
use Rattle.runs.specs.declared.samples.Samples.{Samples}
use Rattle.runs.specs.Settings.{Setting}
use Rattle.runs.specs.Making.{Start}
use Rattle.runs.specs.Runs.{answers, after}
use Rattle.runs.specs.Law.{RunLaw}
use Rattle.job.specs.declared.job.Job.{Job}
use Rattle.job.specs.Grades.{class_of, speed_of}
use Rattle.job.specs.Whole.{setting}
use Rattle.job.specs.Holding.{Held, held, whole_of, judged, Led}
use Rattle.job.specs.Calling.{Lawful}
use Rattle.job.specs.Making.{start_of, Made}
use Rattle.job.proofs.Acting.{pinned}
use Rattle.job.proofs.Grading.{class_is, speed_is}
use Rattle.sequence.specs.Running.{Runs}
use Rattle.sequence.specs.Planning.{Planned}

-- cs, ss as handed in, cs₁, ss₁ after the making, cs₂, ss₂ after the calls
module _ (a b : Number) (samples : Samples) (calls : List Call) (cs cs₁ cs₂ : List (Cell Class)) (ss ss₁ ss₂ : List (Cell Speed)) (old new : List Answer) (j₁ j₂ : Job) (r : Result ℕ Fault)
    (m : Made samples cs cs₁ ss ss₁ j₁) (d : Runs a b calls (held j₁ cs₁ ss₁) (held j₂ cs₂ ss₂) old new r) (l : Lawful a b calls (held j₁ cs₁ ss₁) (held j₂ cs₂ ss₂)) where
  abbrev n : ℕ
  n = samples.count

  abbrev σ : Setting
  σ = setting n a b

  abbrev s : Start
  s = start_of n cs ss

  abbrev h : Held
  h = held j₁ cs₁ ss₁

  led : Led a b s calls (held j₂ cs₂ ss₂)
  led = l.leads s [] (m.leads a b)

  samples_are : j₂.samples ≡ samples
  samples_are = d.holds.samples ∙ m.samples_are

  job_is : whole_of (held j₂ cs₂ ss₂) ≡ after σ s calls
  job_is = led.job ∙ ap (λ k. after (setting k.count a b) s calls) samples_are

  pub planned : Planned a b samples calls cs cs₂ ss ss₂ old new j₂
  planned = record {
    room = m.room;
    samples_are = samples_are;
    job = job_is;
    classes_are = pinned class_rank class_of class_is (take n cs₂) _ (ap (λ k. ranked_all class_rank (take k.count cs₂)) (sym samples_are) ∙ ap (λ w. w.sheets.classes) job_is);
    speeds_are = pinned speed_rank speed_of speed_is (take n ss₂) _ (ap (λ k. ranked_all speed_rank (take k.count ss₂)) (sym samples_are) ∙ ap (λ w. w.sheets.speeds) job_is);
    past_classes = subst (λ k. drop k.count cs₂ ≡ drop k.count cs₁) m.samples_are d.holds.past_classes ∙ m.past_classes;
    past_speeds = subst (λ k. drop k.count ss₂ ≡ drop k.count ss₁) m.samples_are d.holds.past_speeds ∙ m.past_speeds;
    long_classes = d.holds.long_classes ∙ m.long_classes;
    long_speeds = d.holds.long_speeds ∙ m.long_speeds;
    answered = d.answered ∙ ap (λ v. judged v (answers (setting j₁.samples.count a b) calls (whole_of h) ++ drop (length calls) old) (λ _. old)) (m.leads a b).room
        ∙ ap (λ k. answers (setting k.count a b) calls (whole_of h) ++ drop (length calls) old) m.samples_are ∙ ap (λ w. answers σ calls w ++ drop (length calls) old) (m.job a b);
    law = subst (λ k. RunLaw (setting k.count a b) s calls (whole_of (held j₂ cs₂ ss₂))) m.samples_are (l.law s [] (m.leads a b));
    leads = led;
  }
