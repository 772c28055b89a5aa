-- An evaluation as the code makes it: the step of a sweep, which lowers the sheet, and what follows.
use Rattle.std.proofs.Common.{◌≡◌, ℕ, Bool, true, false, cond, ltb, sym, refl, ap, ◌∙◌}
use Rattle.runs.specs.declared.finding.Finding.{Finding}
use Rattle.runs.specs.declared.finding.Finding.TheVariants.{Keeps, Lowers, Clashes}
use Rattle.runs.specs.declared.stage.Make.{Make}
use Rattle.runs.specs.declared.stage.Make.TheVariants.{Classes, Speeds}
use Rattle.runs.specs.declared.stage.Stage.{Stage}
use Rattle.runs.specs.declared.stage.Stage.TheVariants.{Working}
use Rattle.runs.specs.declared.stage.Sweep.{Sweep}
use Rattle.runs.specs.Settings.{Setting}
use Rattle.runs.specs.Sheets.{Sheets}
use Rattle.runs.specs.Jobs.{Job, job, marking, onward, turned, upcoming}
use Rattle.runs.specs.Evaluations.{finished, continued, followed, finding, evaluated, lowering}
use Rattle.sweep.specs.declared.sweeping.Outcome.{Outcome}
use Rattle.sweep.specs.declared.sweeping.Outcome.TheVariants.{Onward, Ended}
use Rattle.sweep.specs.Outcomes.{goes, outcome_from}
use Rattle.sweep.specs.Visits.{lowered}
use Rattle.job.specs.Steps.{settles, follows, stepped, fallen}

-- the sheets after a visit found this
abbrev pub fell : Make → ℕ → Finding → Sheets → Sheets
fell Classes i f S = record { classes = lowered f i S.classes; speeds = S.speeds }
fell Speeds i f S = record { classes = S.classes; speeds = lowered f i S.speeds }

module _ (σ : Setting) (m : Make) (i : ℕ) (w : Sweep) where
  settles_either : (v : Sweep) (S : Sheets) (going marked : Bool)
      → settles σ m i (cond going (Onward v) (cond marked (Onward (turned v)) Ended)) w S
      ≡ cond going (job (Working m) v S) (cond marked (job (Working m) (turned v) S) (finished σ m S))
  settles_either v S true marked = refl
  settles_either v S false true = refl
  settles_either v S false false = refl

  settles_goes : (v : Sweep) (S : Sheets) → settles σ m i (goes σ.samples v) w S ≡ continued σ m v S
  unfolding continued
  settles_goes v S = settles_either v S (ltb v.visited σ.samples) v.marked

settles_is : (σ : Setting) (m : Make) (i : ℕ) (f : Finding) (w : Sweep) (S : Sheets)
    → settles σ m i (outcome_from σ.samples f w) w (fell m i f S) ≡ followed σ m i f w S
unfolding followed
settles_is σ Classes i Keeps w S = settles_goes σ Classes i w (onward w) S
settles_is σ Classes i (Lowers r) w S = settles_goes σ Classes i w (marking (onward w)) (fell Classes i (Lowers r) S)
settles_is σ Classes i Clashes w S = refl
settles_is σ Speeds i Keeps w S = settles_goes σ Speeds i w (onward w) S
settles_is σ Speeds i (Lowers r) w S = settles_goes σ Speeds i w (marking (onward w)) (fell Speeds i (Lowers r) S)
settles_is σ Speeds i Clashes w S = refl

-- the step of a job at stage t over n samples: the visit to sample i has this outcome and leaves S', and what follows is j
module _ (σ : Setting) (m : Make) (t : Stage) (w : Sweep) (S S' : Sheets) (i n : ℕ) (at-work : t ≡ Working m) (long : n ≡ σ.samples) (at : i ≡ upcoming n w) where
  here : i ≡ upcoming σ.samples w
  here = at ∙ ap (λ k. upcoming k w) long

  pub steps : (o : Outcome) (j : Job) → o ≡ outcome_from n (finding σ m i S) w → S' ≡ fell m i (finding σ m i S) S → j ≡ follows σ i o t w S' → j ≡ stepped σ t w S
  unfolding evaluated
  steps o j outcome fallen is =
      is ∙ ap (λ s. follows σ i o s w S') at-work ∙ ap (λ x. settles σ m i x w S') (outcome ∙ ap (λ k. outcome_from k (finding σ m i S) w) long)
      ∙ ap (settles σ m i (outcome_from σ.samples (finding σ m i S) w) w) fallen ∙ settles_is σ m i (finding σ m i S) w S
      ∙ ap (λ k. followed σ m k (finding σ m k S) w S) here ∙ ap (λ s. stepped σ s w S) (sym at-work)

  pub falls : lowering (finding σ m i S) ≡ fallen σ t w S
  falls = ap (λ k. lowering (finding σ m k S)) here ∙ ap (λ s. fallen σ s w S) (sym at-work)
