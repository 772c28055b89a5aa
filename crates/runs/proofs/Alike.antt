-- Two sequences of calls under which the same is in force end alike.
use Rattle.std.proofs.Common.{◌≡◌, List, length, sym, ◌∙◌, le_antisymm, arith}
use mathlib.Core.Path.{fun_ext}
use Rattle.std.proofs.lemmas.List.{ext_get_or}
use Rattle.runs.specs.declared.stage.Make.{Make}
use Rattle.runs.specs.Settings.{Setting, SettingLaw}
use Rattle.runs.specs.Jobs.{Job}
use Rattle.runs.specs.Making.{Start, StartLaw}
use Rattle.runs.specs.Runs.{after}
use Rattle.runs.specs.declared.call.Call.{Call}
use Rattle.runs.specs.InForce.{Bounds, in_force}
use Rattle.runs.specs.Keeping.{Pair, KeepsAll, Greatest, own}
use Rattle.runs.specs.Law.{SameBounds, AlikeLaw}
use Rattle.runs.proofs.Runs.{run_settled, run_impossible}

module _ (σ : Setting) where
  same_sym : (b b' : Bounds) → SameBounds σ b b' → SameBounds σ b' b
  same_sym b b' same m i h = (sym (same m i h).0, sym (same m i h).1)

  keeps_same : (b b' : Bounds) → SameBounds σ b b' → (P : Pair) → KeepsAll σ b P → KeepsAll σ b' P
  keeps_same b b' same P k = record {
    long = k.long;
    limited = k.limited;
    tabled = k.tabled;
    capped = λ m i h. omega (arith, (same m i h).0, k.capped m i h);
    floored = λ m i h. omega (arith, (same m i h).1, k.floored m i h);
  }

  pub greatest_same : (b b' : Bounds) → SameBounds σ b b' → (P : Pair) → Greatest σ b P → Greatest σ b' P
  greatest_same b b' same P g = record {
    keeping = keeps_same b b' same P g.keeping;
    above = λ Q k. g.above Q (keeps_same b' b (same_sym b b' same) Q k);
  }

  -- there is one greatest pair
  greatest_unique : (b b' : Bounds) → SameBounds σ b b' → (P Q : Pair) → Greatest σ b P → Greatest σ b' Q → P ≡ Q
  greatest_unique b b' same P Q g g' = fun_ext (λ m. ext_get_or 0 (P m) (Q m) (long m)
      (λ i h. le_antisymm (g'.above P (keeps_same b b' same P g.keeping) m i h)
      (g.above Q (keeps_same b' b (same_sym b b' same) Q g'.keeping) m i (rw (long m) at h))))
    where
      long : (m : Make) → length (P m) ≡ length (Q m)
      long m = g.keeping.long m ∙ sym (g'.keeping.long m)

pub runs_alike : (σ : Setting) → SettingLaw σ → (s s' : Start) → StartLaw σ s → StartLaw σ s' → (cs cs' : List Call)
    → SameBounds σ (in_force σ s cs) (in_force σ s' cs') → AlikeLaw (after σ s cs) (after σ s' cs')
runs_alike σ law s s' start start' cs cs' same =
    let b : Bounds = in_force σ s cs in
    let b' : Bounds = in_force σ s' cs' in
    let j : Job = after σ s cs in
    let j' : Job = after σ s' cs' in
    record {
      same_pair = λ e e'. greatest_unique σ b b' same (own j.sheets) (own j'.sheets) (run_settled σ law s start cs e) (run_settled σ law s' start' cs' e');
      never_apart = λ i e e'. run_impossible σ law s' start' cs' i e' (own j.sheets) (keeps_same σ b b' same (own j.sheets) (run_settled σ law s start cs e).keeping);
      nor_apart = λ i e e'. run_impossible σ law s start cs i e (own j'.sheets) (keeps_same σ b' b (same_sym σ b b' same) (own j'.sheets) (run_settled σ law s' start' cs' e').keeping);
    }
