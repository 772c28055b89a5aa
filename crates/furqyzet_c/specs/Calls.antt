-- A call in the words that C writes.
use Rattle.std.specs.Prelude.{ℕ, cond, List, [], ◌∷◌, ◌==◌, Some, None, Option}
use Rattle.runs.specs.declared.call.Call.{Call}
use Rattle.runs.specs.declared.call.Call.TheVariants.{Advance, Cut, Lift, Look}
use Rattle.runs.specs.declared.stage.Make.{Make}
use Rattle.runs.specs.declared.stage.Make.TheVariants.{Classes, Speeds}
use Rattle.furqyzet_c.specs.declared.call_words.CallWords.{CallWords}
use Rattle.furqyzet_c.specs.Jobs.{given}

abbrev pub make_in : ℕ → Option Make
make_in k = cond (k == 0) (Some Classes) (cond (k == 1) (Some Speeds) None)

-- the call of a kind
abbrev pub kind_in : CallWords → Make → Option Call
kind_in w m =
    cond (w.kind == 0) (Some (Advance w.value))
    (cond (w.kind == 1) (Some (Cut m w.sample w.value))
    (cond (w.kind == 2) (Some (Lift m w.sample w.value))
    (cond (w.kind == 3) (Some (Look w.sample)) None)))

-- the call whose words they are
abbrev pub call_in : CallWords → Option Call
call_in w = given (make_in w.make) (kind_in w)

-- a call, where there is one, before others
abbrev pub before : Option Call → List Call → List Call
before None cs = cs
before (Some c) cs = c ∷ cs

-- the calls among words, in their order
unfoldable pub calls_in : List CallWords → List Call
calls_in [] = []
calls_in (w ∷ ws) = before (call_in w) (calls_in ws)
