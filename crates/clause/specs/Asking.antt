-- Questions, asked one after another: the first "no" is the answer.
use Rattle.std.specs.Prelude.{Bool, cond, Ok, Err, Result}

-- a question: where the test fails, its fault; else what comes next
abbrev pub ask : {A F : Type 0} → Bool → F → Result A F → Result A F
ask ok fault next = cond ok next (Err fault)

-- what comes next from an `Ok`; an `Err` goes up, wrapped
abbrev pub within : {A B E F : Type 0} → (E → F) → Result A E → (A → Result B F) → Result B F
within wrap (Ok v) next = next v
within wrap (Err e) next = Err (wrap e)
