-- The questions before a making, and the numbers of their refusals.
use Rattle.std.specs.Prelude.{ℕ, List, Ok, Result, nat_le}
use Rattle.clause.specs.Asking.{ask, within}
use Rattle.frame.specs.declared.header.Header.{Header}
use Rattle.frame.specs.declared.refusal.Layer.TheVariants as layer
use Rattle.frame.specs.declared.refusal.Refusal.{Refusal}
use Rattle.frame.specs.Paths.{header_of, path_read}
use Rattle.frame.specs.Refusals.{refusal_of}
use Rattle.planner.specs.declared.fault.MakeFault.{MakeFault}
use Rattle.planner.specs.declared.fault.MakeFault.TheVariants.{Frame, NoClassMemory, NoSpeedMemory}

-- the reader's questions of the bytes, and then whether the memories, of so many cells, hold its samples
abbrev pub asked : (bs : List ℕ) → (classes speeds : ℕ) → Result Header MakeFault
asked bs classes speeds = within Frame (header_of (path_read bs)) (λ h. ask (nat_le h.samples classes) NoClassMemory (ask (nat_le h.samples speeds) NoSpeedMemory (Ok h)))

-- a question about memory
abbrev pub remembered : ℕ → Refusal
remembered k = record { layer = layer.Memory; number = k; place = 0 }

-- each fault of a making: its layer, the number of the question that said no, and its place
abbrev pub make_refusal : MakeFault → Refusal
make_refusal (Frame f) = refusal_of f
make_refusal NoClassMemory = remembered 50
make_refusal NoSpeedMemory = remembered 51
