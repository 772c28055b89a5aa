-- The allowance that suffices to end the work.
use Rattle.std.specs.Prelude.{◌≡◌, ℕ, ◌+◌, ◌*◌, ◌≤◌, List, [], ◌∷◌, ◌++◌, Ok, Err, sum, Result}
use Rattle.grade.specs.Tops.{class_top, speed_top}
use Rattle.limit.specs.Numbers.{Number, LimitLaw}
use Rattle.runs.specs.declared.call.Call.{Call}
use Rattle.runs.specs.declared.call.Call.TheVariants.{Advance}
use Rattle.runs.specs.declared.call.Fault.{Fault}
use Rattle.runs.specs.declared.stage.Make.TheVariants.{Classes, Speeds}
use Rattle.runs.specs.Calls.{granted, refused}
use Rattle.runs.specs.Making.{Start}
use Rattle.runs.specs.Keeping.{own}
use Rattle.runs.specs.Runs.{after}
use Rattle.runs.specs.Law.{Ended}
use Rattle.job.specs.Holding.{Held, count, whole_of, setting_of, room, Led}

-- k is enough for the job as it stands
pub record Suffices (h : Held) (k : ℕ) : Type 0 where
  pub roomy : room h ≡ granted
  -- samples × (sum of the classes + sum of the squared speeds + 3)
  pub is : k ≡ count h * (sum (own (whole_of h).sheets Classes) + sum (own (whole_of h).sheets Speeds) + 3)
  -- whatever led here, under lawful limits, an advance with no smaller allowance ends the work
  pub ends : (a b : Number) → LimitLaw class_top a → LimitLaw speed_top b → (s : Start) (earlier : List Call) → Led a b s earlier h
      → (allowance : ℕ) → k ≤ allowance → Ended (after (setting_of a b h) s (earlier ++ (Advance allowance ∷ []))).stage

-- what is promised of it: the memory's questions are asked first
abbrev pub Allowed : Held → Result ℕ Fault → Type 0
Allowed h (Ok k) = Suffices h k
Allowed h (Err f) = refused f ≡ room h
