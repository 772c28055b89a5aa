-- The law of the job: what is true after every sequence of calls, said of the start and the calls alone.
use Rattle.std.specs.Prelude.{◌≡◌, ℕ, ◌+◌, ◌*◌, ◌<◌, ◌≤◌, ◌⊎◌, List, [], ◌∷◌, ◌++◌, sum, ◌≢◌, true, Ok}
use Rattle.runs.specs.declared.stage.Make.{Make}
use Rattle.runs.specs.declared.stage.Make.TheVariants.{Classes, Speeds}
use Rattle.runs.specs.declared.stage.Stage.{Stage}
use Rattle.runs.specs.declared.stage.Stage.TheVariants.{Settled, Impossible}
use Rattle.runs.specs.declared.call.Call.{Call}
use Rattle.runs.specs.declared.call.Call.TheVariants.{Advance, Look}
use Rattle.runs.specs.declared.reply.Progress.{Progress}
use Rattle.runs.specs.declared.reply.Reply.TheVariants.{Advanced, Seen}
use Rattle.grade.specs.Profiles.{rank, AtMost}
use Rattle.runs.specs.Settings.{Setting, SettingLaw}
use Rattle.runs.specs.Sheets.{Sheets}
use Rattle.runs.specs.Jobs.{Job}
use Rattle.runs.specs.Making.{Start, StartLaw}
use Rattle.runs.specs.Calls.{answered, is_possible}
use Rattle.runs.specs.Runs.{after}
use Rattle.runs.specs.InForce.{Bounds, in_force}
use Rattle.runs.specs.Keeping.{Pair, KeepsAll, Greatest, own, bounds_in}

-- the work is over: settled or impossible
abbrev pub Ended : Stage → Type 0
Ended t = (t ≡ Settled) ⊎ ((i : ℕ) × (t ≡ Impossible i))

-- an allowance that is never too small: samples × (sum of the classes + sum of the squared speeds + 3)
abbrev pub enough : Setting → Sheets → ℕ
enough σ S = σ.samples * (sum (own S Classes) + sum (own S Speeds) + 3)

-- the two bounds are the same at every sample
abbrev pub SameBounds : Setting → Bounds → Bounds → Type 0
SameBounds σ b b' = (m : Make) (i : ℕ) → i < σ.samples → (b.cap m i ≡ b'.cap m i) × (b.floor m i ≡ b'.floor m i)

-- two jobs do not end apart: settled both have one pair, and settled beside impossible does not happen, either way
pub record AlikeLaw (j j' : Job) : Type 0 where
  pub same_pair : j.stage ≡ Settled → j'.stage ≡ Settled → own j.sheets ≡ own j'.sheets
  pub never_apart : (i : ℕ) → j.stage ≡ Settled → j'.stage ≢ Impossible i
  pub nor_apart : (i : ℕ) → j.stage ≡ Impossible i → j'.stage ≢ Settled

-- the job j, after the calls cs on a job newly made from the start s
pub record RunLaw (σ : Setting) (s : Start) (cs : List Call) (j : Job) : Type 0 where
  -- settled: its own pair keeps everything in force, and no pair that does is anywhere above it
  pub settled : j.stage ≡ Settled → Greatest σ (in_force σ s cs) (own j.sheets)
  -- impossible: no pair keeps everything in force
  pub impossible : (i : ℕ) → j.stage ≡ Impossible i → (P : Pair) → KeepsAll σ (in_force σ s cs) P → ⊥
  -- and that was found at a sample of the path
  pub found : (i : ℕ) → j.stage ≡ Impossible i → i < σ.samples
  -- the caps and floors in its cells are those in force, at every stage
  pub holds : SameBounds σ (in_force σ s cs) (bounds_in j.sheets)
  -- as long as it is not impossible, each value lies between floor and cap, and no pair that keeps everything in force is anywhere
  -- above its own pair
  pub between : is_possible j.stage ≡ true → (m : Make) (i : ℕ) → i < σ.samples
      → ((in_force σ s cs).floor m i ≤ rank (own j.sheets m) i) × (rank (own j.sheets m) i ≤ (in_force σ s cs).cap m i)
  pub above : is_possible j.stage ≡ true → (P : Pair) → KeepsAll σ (in_force σ s cs) P → (m : Make) → AtMost (P m) (own j.sheets m)
  -- so a settled job's own pair is the greatest under the caps and floors of its cells too
  pub held : j.stage ≡ Settled → Greatest σ (bounds_in j.sheets) (own j.sheets)
  -- a last advance whose allowance was enough, by the sums where it began, has ended the work
  pub ends : (before : List Call) (k : ℕ) → cs ≡ before ++ (Advance k ∷ []) → enough σ (after σ s before).sheets ≤ k → Ended j.stage
  -- a last advance that was done used its whole allowance or ended the work, and used no more than enough
  pub spends : (before : List Call) (k : ℕ) (p : Progress) → cs ≡ before ++ (Advance k ∷ []) → answered σ (Advance k) (after σ s before) ≡ Ok (Advanced p)
      → (p.evaluations ≤ k) × ((p.evaluations ≡ k) ⊎ Ended p.stage) × (p.evaluations ≤ enough σ (after σ s before).sheets)
  -- a look at a sample shows the stage and the job's own pair there
  pub shows : (i : ℕ) → i < σ.samples
      → answered σ (Look i) j ≡ Ok (Seen (record { stage = j.stage; class = rank (own j.sheets Classes) i; speed = rank (own j.sheets Speeds) i }))
  -- whatever start and calls put the same in force, they do not end apart from these
  pub alike : (s' : Start) → StartLaw σ s' → (cs' : List Call) → SameBounds σ (in_force σ s cs) (in_force σ s' cs') → AlikeLaw j (after σ s' cs')

-- the law holds of every lawful start and every sequence of calls
abbrev pub RunsLawful : Type 0
RunsLawful = (σ : Setting) → SettingLaw σ → (s : Start) → StartLaw σ s → (cs : List Call) → RunLaw σ s cs (after σ s cs)
