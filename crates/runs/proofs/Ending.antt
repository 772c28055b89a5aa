-- An advance with enough allowance ends the job.
use Rattle.std.proofs.Common.{◌≡◌, ℕ, zero, suc, ◌≤◌, Bool, true, false, cond, ◌⊎◌, Ok, refl, ap, subst, inl, inr, ⊎_elim, suc-le-suc, zero-le, le_trans, le_refl, mul-le-mul_left, arith}
use Rattle.runs.specs.declared.stage.Make.{Make}
use Rattle.runs.specs.declared.stage.Make.TheVariants.{Classes, Speeds}
use Rattle.runs.specs.declared.stage.Stage.{Stage}
use Rattle.runs.specs.declared.stage.Stage.TheVariants.{Working, Settled, Impossible}
use Rattle.runs.specs.declared.stage.Sweep.{Sweep}
use Rattle.runs.specs.declared.call.Call.TheVariants.{Advance}
use Rattle.runs.specs.declared.reply.Progress.{Progress}
use Rattle.runs.specs.declared.reply.Reply.TheVariants.{Advanced}
use Rattle.runs.specs.Answers.{Answer}
use Rattle.runs.specs.Settings.{Setting, SettingLaw}
use Rattle.runs.specs.Sheets.{Sheets}
use Rattle.runs.specs.Jobs.{Job, job}
use Rattle.runs.specs.Evaluations.{evaluated}
use Rattle.runs.specs.Calls.{Course, advanced, acted, progress, called, answered, replied}
use Rattle.runs.specs.InForce.{Bounds}
use Rattle.runs.specs.Keeping.{own}
use Rattle.runs.specs.Law.{Ended, enough}
use Rattle.runs.proofs.Standing.{Standing}
use Rattle.runs.proofs.Sweeping.{evaluated_stands}
use Rattle.runs.proofs.Potential.{due, potential, some_due, evaluated_potential}

once : (t : Bool) → cond {A = ℕ} t 1 0 ≤ 1
once true = omega arith
once false = omega arith

enough_due : (σ : Setting) (m : Make) (w : Sweep) (S : Sheets) → due σ.samples m w (own S) ≤ enough σ S
enough_due σ Classes w S = omega (arith, mul-le-mul_left σ.samples (once w.marked))
enough_due σ Speeds w S = omega (arith, mul-le-mul_left σ.samples (once w.marked))

potential_enough : (σ : Setting) (t : Stage) (w : Sweep) (S : Sheets) → potential σ.samples t w (own S) ≤ enough σ S
potential_enough σ (Working m) w S = enough_due σ m w S
potential_enough σ Settled w S = zero-le
potential_enough σ (Impossible i) w S = zero-le

-- the evaluations of an advance: within its allowance, all of it unless the work ends, and within what is due
record Spent (k most : ℕ) (p : Course) : Type 0 where
  within : p.evaluations ≤ k
  whole : (p.evaluations ≡ k) ⊎ Ended p.job.stage
  bounded : p.evaluations ≤ most

told : (k most : ℕ) (c : Course) (p : Progress) → Spent k most c → ◌≡◌ {A = Answer} (Ok (Advanced (progress c))) (Ok (Advanced p))
    → (p.evaluations ≤ k) × ((p.evaluations ≡ k) ⊎ Ended p.stage) × (p.evaluations ≤ most)
told k most c p s is =
    let same : progress c ≡ p = cc in
    subst (λ q. (q.evaluations ≤ k) × ((q.evaluations ≡ k) ⊎ Ended q.stage) × (q.evaluations ≤ most)) same (s.within, s.whole, s.bounded)

module _ (σ : Setting) (law : SettingLaw σ) (b : Bounds) where
  advanced_ends : (k : ℕ) (t : Stage) (w : Sweep) (S : Sheets) → Standing σ b t w S → potential σ.samples t w (own S) ≤ k
      → Ended (advanced σ k (job t w S)).job.stage
  unfolding advanced
  advanced_ends zero (Working m) w S (f, (ready, below, swept)) h = absurd (omega (arith, some_due σ m w (own S) below))
  advanced_ends (suc k) (Working m) w S (f, (ready, below, swept)) h =
      let j : Job = evaluated σ m w S in
      advanced_ends k j.stage j.sweep j.sheets (evaluated_stands σ law b m w S (f, (ready, below, swept)))
      (omega (arith, evaluated_potential σ m w S f.long below))
  advanced_ends zero Settled w S s h = inl refl
  advanced_ends (suc k) Settled w S s h = inl refl
  advanced_ends zero (Impossible i) w S s h = inr (i, refl)
  advanced_ends (suc k) (Impossible i) w S s h = inr (i, refl)

  -- one more advance
  pub advance_ends : (k : ℕ) (t : Stage) (w : Sweep) (S : Sheets) → Standing σ b t w S → enough σ S ≤ k → Ended (called σ (Advance k) (job t w S)).stage
  unfolding called acted
  advance_ends k (Working m) w S s h = advanced_ends k (Working m) w S s (le_trans (potential_enough σ (Working m) w S) h)
  advance_ends k Settled w S s h = advanced_ends k Settled w S s (omega arith)
  advance_ends k (Impossible i) w S s h = inr (i, refl)

  spent : (k : ℕ) (t : Stage) (w : Sweep) (S : Sheets) → Standing σ b t w S → Spent k (potential σ.samples t w (own S)) (advanced σ k (job t w S))
  unfolding advanced
  spent zero (Working m) w S s = record { within = le_refl 0; whole = inl refl; bounded = zero-le }
  spent (suc k) (Working m) w S (f, (ready, below, swept)) =
      let j : Job = evaluated σ m w S in
      let rest = spent k j.stage j.sweep j.sheets (evaluated_stands σ law b m w S (f, (ready, below, swept))) in
      record {
        within = suc-le-suc rest.within;
        whole = ⊎_elim (λ e. inl (ap suc e)) (λ e. inr e) rest.whole;
        bounded = omega (arith, rest.bounded, evaluated_potential σ m w S f.long below);
      }
  spent zero Settled w S s = record { within = le_refl 0; whole = inl refl; bounded = zero-le }
  spent (suc k) Settled w S s = record { within = zero-le; whole = inr (inl refl); bounded = zero-le }
  spent zero (Impossible i) w S s = record { within = le_refl 0; whole = inl refl; bounded = zero-le }
  spent (suc k) (Impossible i) w S s = record { within = zero-le; whole = inr (inr (i, refl)); bounded = zero-le }

  spent_enough : (k : ℕ) (t : Stage) (w : Sweep) (S : Sheets) → Standing σ b t w S → Spent k (enough σ S) (advanced σ k (job t w S))
  spent_enough k t w S s =
      let p = spent k t w S s in
      record { within = p.within; whole = p.whole; bounded = le_trans p.bounded (potential_enough σ t w S) }

  pub advance_spends : (t : Stage) (w : Sweep) (S : Sheets) → Standing σ b t w S → (k : ℕ) (p : Progress) → answered σ (Advance k) (job t w S) ≡ Ok (Advanced p)
      → (p.evaluations ≤ k) × ((p.evaluations ≡ k) ⊎ Ended p.stage) × (p.evaluations ≤ enough σ S)
  unfolding answered replied
  advance_spends (Working m) w S s k p is = told k (enough σ S) (advanced σ k (job (Working m) w S)) p (spent_enough k (Working m) w S s) is
  advance_spends Settled w S s k p is = told k (enough σ S) (advanced σ k (job Settled w S)) p (spent_enough k Settled w S s) is
  advance_spends (Impossible i) w S s k p is = let z : ◌≡◌ {A = ℕ} 0 1 = cc in absurd (omega arith)
