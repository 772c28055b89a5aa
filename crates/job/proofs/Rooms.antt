-- Memory that holds every sample.
use Rattle.std.proofs.Common.{◌≡◌, ℕ, ◌≤◌, Bool, true, false, leb, refl, ap, ◌∙◌, arith}
use Rattle.std.proofs.lemmas.Bool.{leb-true, le-leb}
use Rattle.runs.specs.declared.call.Fault.TheVariants.{NoClassMemory, NoSpeedMemory}
use Rattle.runs.specs.Calls.{Verdict, granted, ask}
use Rattle.job.specs.Holding.{room_for}

-- where both memories are long enough, the questions after theirs decide
pub room_yes : (n c s : ℕ) (rest : Verdict) → n ≤ c → n ≤ s → room_for n c s rest ≡ rest
room_yes n c s rest c-fit s-fit =
    ap (λ t. ask t NoClassMemory (ask (leb n s) NoSpeedMemory rest)) (le-leb n c c-fit) ∙ ap (λ t. ask t NoSpeedMemory rest) (le-leb n s s-fit)

room_fits : (n c s : ℕ) (yes-c yes-s : Bool) → leb n c ≡ yes-c → leb n s ≡ yes-s → ask yes-c NoClassMemory (ask yes-s NoSpeedMemory granted) ≡ granted → (n ≤ c) × (n ≤ s)
room_fits n c s true true c_is s_is e = (leb-true n c c_is, leb-true n s s_is)
room_fits n c s true false c_is s_is e = let z : ◌≡◌ {A = ℕ} 0 1 = cc in absurd (omega arith)
room_fits n c s false yes-s c_is s_is e = let z : ◌≡◌ {A = ℕ} 0 1 = cc in absurd (omega arith)

pub room_both : (n c s : ℕ) → room_for n c s granted ≡ granted → (n ≤ c) × (n ≤ s)
room_both n c s e = room_fits n c s (leb n c) (leb n s) refl refl e
