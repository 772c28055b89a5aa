-- Sequences of calls, each made on the job as the one before left it.
use Rattle.std.specs.Prelude.{List, [], ◌∷◌, Ok, Err}
use Rattle.runs.specs.declared.call.Call.{Call}
use Rattle.runs.specs.Answers.{Answer}
use Rattle.runs.specs.Settings.{Setting}
use Rattle.runs.specs.Jobs.{Job}
use Rattle.runs.specs.Making.{Start, made}
use Rattle.runs.specs.Calls.{verdict, called, answered}

-- the job after a sequence of calls
unfoldable pub run : Setting → List Call → Job → Job
run σ [] j = j
run σ (c ∷ cs) j = run σ cs (called σ c j)

-- the answers of a sequence of calls
unfoldable pub answers : Setting → List Call → Job → List Answer
answers σ [] j = []
answers σ (c ∷ cs) j = answered σ c j ∷ answers σ cs (called σ c j)

-- those of a sequence that are done: no question refuses them
unfoldable pub done : Setting → List Call → Job → List Call
done σ [] j = []
done σ (c ∷ cs) j =
    let rest : List Call = done σ cs (called σ c j) in
    elim (verdict σ c j.stage) [ Ok _ ↦ c ∷ rest | Err f ↦ rest ]

-- the job after a sequence of calls on one newly made
abbrev pub after : Setting → Start → List Call → Job
after σ s cs = run σ cs (made σ s)

-- and those of them that are done
abbrev pub done_after : Setting → Start → List Call → List Call
done_after σ s cs = done σ cs (made σ s)
