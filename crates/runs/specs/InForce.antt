-- The bounds in force: a sample's cap is the lowest that its start or any done cut of it set, its floor the highest that
-- its start or any done lift of it set. Nothing here looks into a job.
use Rattle.std.specs.Prelude.{ℕ, min, max, Bool, true, false, cond, ◌&&◌, List, [], ◌∷◌, ◌==◌}
use Rattle.runs.specs.declared.stage.Make.{Make}
use Rattle.runs.specs.declared.stage.Make.TheVariants.{Classes, Speeds}
use Rattle.runs.specs.declared.call.Call.{Call}
use Rattle.runs.specs.declared.call.Call.TheVariants.{Advance, Cut, Lift, Look}
use Rattle.grade.specs.Profiles.{rank}
use Rattle.runs.specs.Settings.{Setting}
use Rattle.runs.specs.Making.{Start}
use Rattle.runs.specs.Runs.{done_after}

-- are both makes one?
abbrev pub same_make : Make → Make → Bool
same_make Classes Classes = true
same_make Classes Speeds = false
same_make Speeds Classes = false
same_make Speeds Speeds = true

-- do both name the same sample of the same make?
abbrev pub here : Make → ℕ → Make → ℕ → Bool
here m i m' i' = same_make m m' && i == i'

-- the values to which a sequence of calls cuts a sample
abbrev pub cuts_of : Make → ℕ → List Call → List ℕ
cuts_of m i [] = []
cuts_of m i (Advance k ∷ cs) = cuts_of m i cs
cuts_of m i (Cut m' i' v ∷ cs) = cond (here m' i' m i) (v ∷ cuts_of m i cs) (cuts_of m i cs)
cuts_of m i (Lift m' i' v ∷ cs) = cuts_of m i cs
cuts_of m i (Look i' ∷ cs) = cuts_of m i cs

-- the values to which it lifts the sample
abbrev pub lifts_of : Make → ℕ → List Call → List ℕ
lifts_of m i [] = []
lifts_of m i (Advance k ∷ cs) = lifts_of m i cs
lifts_of m i (Cut m' i' v ∷ cs) = lifts_of m i cs
lifts_of m i (Lift m' i' v ∷ cs) = cond (here m' i' m i) (v ∷ lifts_of m i cs) (lifts_of m i cs)
lifts_of m i (Look i' ∷ cs) = lifts_of m i cs

-- the least of a number and a list
abbrev pub least : ℕ → List ℕ → ℕ
least x [] = x
least x (y ∷ ys) = least (min x y) ys

-- the greatest of a number and a list
abbrev pub greatest : ℕ → List ℕ → ℕ
greatest x [] = x
greatest x (y ∷ ys) = greatest (max x y) ys

-- a cap and a floor for each make and sample
pub record Bounds : Type 0 where
  pub cap : Make → ℕ → ℕ
  pub floor : Make → ℕ → ℕ

-- the bounds that a start gives
abbrev pub given : Start → Bounds
given s = record { cap = λ m i. rank (s.caps m) i; floor = λ m i. rank (s.floors m) i }

-- the bounds after these calls, each of them done
abbrev pub under : Bounds → List Call → Bounds
under b cs = record { cap = λ m i. least (b.cap m i) (cuts_of m i cs); floor = λ m i. greatest (b.floor m i) (lifts_of m i cs) }

-- the bounds after a sequence of calls on a job newly made from the start: only the done ones count
abbrev pub in_force : Setting → Start → List Call → Bounds
in_force σ s cs = under (given s) (done_after σ s cs)
