-- A job made of memory filled from a path is the path's.
use Rattle.std.proofs.Common.{◌≡◌, ℕ, List, [], length, take, drop, sym, ap, ◌∙◌, subst}
use Rattle.grade.specs.declared.cell.Cell.{Cell}
use Rattle.grade.specs.declared.class.Class.{Class}
use Rattle.grade.specs.declared.speed.Speed.{Speed}
use Rattle.grade.specs.Ranks.{class_rank, speed_rank, ranked_all}
use Rattle.limit.specs.Numbers.{Number}
use Rattle.runs.specs.declared.call.Call.{Call}
use Rattle.runs.specs.declared.samples.Samples.{Samples}
use Rattle.runs.specs.Jobs.{Job as Whole}
use Rattle.runs.specs.Making.{Start}
use Rattle.runs.specs.Runs.{after}
use Rattle.job.specs.declared.job.Job.{Job}
use Rattle.job.specs.Grades.{class_of, speed_of}
use Rattle.job.specs.Whole.{setting}
use Rattle.job.specs.Holding.{held, whole_of, Led}
use Rattle.job.specs.Making.{start_of, Made}
use Rattle.job.proofs.Acting.{pinned}
use Rattle.job.proofs.Grading.{class_is, speed_is}
use Rattle.frame.specs.Paths.{Path}
use Rattle.planner.specs.Starts.{class_sheet_of, speed_sheet_of, start_from, Filled}
use Rattle.planner.specs.Making.{MadeAs}
use Rattle.planner.specs.Standing.{Stands}
use Rattle.planner.proofs.Begun.{start_is, past_classes, past_speeds}

-- a job that the calls lead to stands as they leave it
module _ (n : ℕ) (s : Start) (a b : Number) (calls : List Call) (cs cs' : List (Cell Class)) (ss ss' : List (Cell Speed)) (j : Job) (samples_are : j.samples.count ≡ n) (led : Led a b s calls (held j cs' ss')) where
  job_is : whole_of (held j cs' ss') ≡ after (setting n a b) s calls
  job_is = led.job ∙ ap (λ (k : ℕ). after (setting k a b) s calls) samples_are

  pub standing : drop n cs' ≡ drop n cs → drop n ss' ≡ drop n ss → length cs' ≡ length cs → length ss' ≡ length ss → Stands n s a b calls cs cs' ss ss' j
  standing past-cs past-ss long_cs long_ss = record {
    samples_are = samples_are;
    job = job_is;
    classes_are = pinned class_rank class_of class_is (take n cs') _ (ap (λ (k : ℕ). ranked_all class_rank (take k cs')) (sym samples_are) ∙ ap (λ (w : Whole). w.sheets.classes) job_is);
    speeds_are = pinned speed_rank speed_of speed_is (take n ss') _ (ap (λ (k : ℕ). ranked_all speed_rank (take k ss')) (sym samples_are) ∙ ap (λ (w : Whole). w.sheets.speeds) job_is);
    past_classes = past-cs;
    past_speeds = past-ss;
    long_classes = long_cs;
    long_speeds = long_ss;
    leads = led;
  }

-- a job made of memory filled from a path is the path's
module _ (p : Path) (samples : Samples) (cs cs₁ cs₂ : List (Cell Class)) (ss ss₁ ss₂ : List (Cell Speed)) (j : Job)
    (count_is : samples.count ≡ p.header.samples) (n-is : p.header.samples ≡ length p.samples) (fc : Filled class_rank (class_sheet_of p) cs cs₁) (fs : Filled speed_rank (speed_sheet_of p) ss ss₁)
    (m : Made samples cs₁ cs₂ ss₁ ss₂ j) where
  abbrev n : ℕ
  n = samples.count

  by_cells : MadeAs n (start_of n cs₁ ss₁) cs cs₂ ss ss₂ j
  by_cells = record {
    stands = λ a b. standing n (start_of n cs₁ ss₁) a b [] cs cs₂ ss ss₂ j (ap (λ (k : Samples). k.count) m.samples_are) (m.leads a b)
        (m.past_classes ∙ past_classes p n (count_is ∙ n-is) cs cs₁ ss ss₁ fc fs) (m.past_speeds ∙ past_speeds p n (count_is ∙ n-is) cs cs₁ ss ss₁ fc fs)
        (m.long_classes ∙ fc.long) (m.long_speeds ∙ fs.long);
    law = m.law;
  }

  pub made_as : MadeAs p.header.samples (start_from p) cs cs₂ ss ss₂ j
  made_as =
      subst (λ (k : ℕ). MadeAs k (start_from p) cs cs₂ ss ss₂ j) count_is
      (subst (λ (s : Start). MadeAs n s cs cs₂ ss ss₂ j) (start_is p n (count_is ∙ n-is) cs cs₁ ss ss₁ fc fs) by_cells)
