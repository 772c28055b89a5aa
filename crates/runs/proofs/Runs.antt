-- What holds after a sequence of calls, from the invariant.
use Rattle.std.proofs.Common.{◌≡◌, ℕ, ◌<◌, ◌≤◌, ◌⊎◌, List, [], ◌∷◌, ◌++◌, Ok, true, sym, refl, ◌∙◌, subst, arith}
use Rattle.runs.specs.declared.stage.Make.{Make}
use Rattle.runs.specs.declared.stage.Make.TheVariants.{Classes, Speeds}
use Rattle.runs.specs.declared.stage.Stage.TheVariants.{Settled, Impossible}
use Rattle.runs.specs.declared.stage.Sweep.{Sweep}
use Rattle.runs.specs.declared.call.Call.{Call}
use Rattle.runs.specs.declared.call.Call.TheVariants.{Advance}
use Rattle.runs.specs.declared.reply.Progress.{Progress}
use Rattle.runs.specs.declared.reply.Reply.TheVariants.{Advanced}
use Rattle.grade.specs.Profiles.{rank, AtMost}
use Rattle.limit.specs.Numbers.{KeptAt}
use Rattle.runs.specs.Settings.{Setting, SettingLaw}
use Rattle.runs.specs.Sheets.{Sheets, sheet}
use Rattle.runs.specs.Jobs.{Job}
use Rattle.runs.specs.Making.{Start, StartLaw, made}
use Rattle.runs.specs.Calls.{called, answered, is_possible}
use Rattle.runs.specs.Runs.{run, after}
use Rattle.runs.specs.InForce.{Bounds, given, in_force}
use Rattle.runs.specs.Keeping.{Pair, KeepsAll, Greatest, own, bounds_in}
use Rattle.runs.specs.Law.{Ended, SameBounds, enough}
use Rattle.runs.proofs.Cells.{rank_values, length-values}
use Rattle.runs.proofs.Standing.{Standing, Stands, Fitting, Hopeless, Holding, parts, standing_holds}
use Rattle.runs.proofs.Making.{made_stands}
use Rattle.runs.proofs.Calling.{run_stands}
use Rattle.runs.proofs.Ending.{advance_ends, advance_spends}

-- where a job stands settled, its own pair is the greatest
pub settled_greatest : (σ : Setting) (b : Bounds) (w : Sweep) (S : Sheets) → Standing σ b Settled w S → Greatest σ b (own S)
settled_greatest σ b w S (f, ((classes, table), speeds)) = record {
  keeping = record {
    long = λ m. length-values (sheet S m) ∙ f.long m;
    limited = both;
    tabled = table;
    capped = λ m i h. let c = f.each m i h in let e = c.cap_is in let l = c.capped in rw rank_values (omega arith);
    floored = λ m i h. let c = f.each m i h in let e = c.floor_is in let l = c.floored in rw rank_values (omega arith);
  };
  above = λ Q k m i h. rw rank_values ((f.each m i (rw (k.long m) at h)).covers Q k);
}
  where
    both : (m : Make) (i : ℕ) → i < σ.samples → KeptAt (σ.number m) (own S m) i
    both Classes = classes
    both Speeds = speeds

pub run-append : (σ : Setting) (xs ys : List Call) (j : Job) → run σ (xs ++ ys) j ≡ run σ ys (run σ xs j)
unfolding run
run-append σ [] ys j = refl
run-append σ (x ∷ xs) ys j = run-append σ xs ys (called σ x j)

pub run_more : (σ : Setting) (cs : List Call) (c : Call) (j : Job) → run σ (cs ++ (c ∷ [])) j ≡ called σ c (run σ cs j)
unfolding run
run_more σ cs c j = run-append σ cs (c ∷ []) j

module _ (σ : Setting) (law : SettingLaw σ) (s : Start) (start : StartLaw σ s) where
  stands : (cs : List Call) → Stands σ (in_force σ s cs) (after σ s cs)
  stands cs = run_stands σ law cs (given s) (made σ s) (made_stands σ law s start)

  pub run_settled : (cs : List Call) → (after σ s cs).stage ≡ Settled → Greatest σ (in_force σ s cs) (own (after σ s cs).sheets)
  run_settled cs e =
      let j : Job = after σ s cs in
      let b : Bounds = in_force σ s cs in
      settled_greatest σ b j.sweep j.sheets (subst (λ t. Standing σ b t j.sweep j.sheets) e (stands cs))

  -- what holds of an impossible job
  stuck : (cs : List Call) (i : ℕ) → (after σ s cs).stage ≡ Impossible i
      → Hopeless σ (in_force σ s cs) × (i < σ.samples) × Holding σ (in_force σ s cs) (after σ s cs).sheets
  stuck cs i e =
      let j : Job = after σ s cs in
      subst (λ t. Standing σ (in_force σ s cs) t j.sweep j.sheets) e (stands cs)

  pub run_impossible : (cs : List Call) (i : ℕ) → (after σ s cs).stage ≡ Impossible i → (P : Pair) → KeepsAll σ (in_force σ s cs) P → ⊥
  run_impossible cs i e = (stuck cs i e).0

  pub run_found : (cs : List Call) (i : ℕ) → (after σ s cs).stage ≡ Impossible i → i < σ.samples
  run_found cs i e = (stuck cs i e).1

  pub run_holds : (cs : List Call) → SameBounds σ (in_force σ s cs) (bounds_in (after σ s cs).sheets)
  run_holds cs =
      let j : Job = after σ s cs in
      (standing_holds σ (in_force σ s cs) j.stage j.sweep j.sheets (stands cs)).bounds

  fitting : (cs : List Call) → is_possible (after σ s cs).stage ≡ true → Fitting σ (in_force σ s cs) (after σ s cs).sheets
  fitting cs p = let j : Job = after σ s cs in (parts σ (in_force σ s cs) j.stage j.sweep j.sheets p (stands cs)).0

  pub run_between : (cs : List Call) → is_possible (after σ s cs).stage ≡ true → (m : Make) (i : ℕ) → i < σ.samples
      → ((in_force σ s cs).floor m i ≤ rank (own (after σ s cs).sheets m) i) × (rank (own (after σ s cs).sheets m) i ≤ (in_force σ s cs).cap m i)
  run_between cs p m i h =
      let c = (fitting cs p).each m i h in
      let cap = c.cap_is in
      let floor = c.floor_is in
      let low = c.floored in
      let high = c.capped in
      rw rank_values (omega arith, omega arith)

  pub run_above : (cs : List Call) → is_possible (after σ s cs).stage ≡ true → (P : Pair) → KeepsAll σ (in_force σ s cs) P
      → (m : Make) → AtMost (P m) (own (after σ s cs).sheets m)
  run_above cs p P k m i h = rw rank_values (((fitting cs p).each m i (rw (k.long m) at h)).covers P k)

  pub run_ends : (cs before : List Call) (k : ℕ) → cs ≡ before ++ (Advance k ∷ []) → enough σ (after σ s before).sheets ≤ k → Ended (after σ s cs).stage
  run_ends cs before k last h =
      let j : Job = after σ s before in
      subst (λ l. Ended (after σ s l).stage) (sym last)
      (subst (λ x. Ended x.stage) (sym (run_more σ before (Advance k) (made σ s))) (advance_ends σ law (in_force σ s before) k j.stage j.sweep j.sheets (stands before) h))

  pub run_spends : (before : List Call) (k : ℕ) (p : Progress) → answered σ (Advance k) (after σ s before) ≡ Ok (Advanced p)
      → (p.evaluations ≤ k) × ((p.evaluations ≡ k) ⊎ Ended p.stage) × (p.evaluations ≤ enough σ (after σ s before).sheets)
  run_spends before k p =
      let j : Job = after σ s before in
      advance_spends σ law (in_force σ s before) j.stage j.sweep j.sheets (stands before) k p
