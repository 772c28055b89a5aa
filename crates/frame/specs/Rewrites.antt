-- A frame's bytes read, and its records written again.
use Rattle.std.specs.Prelude.{◌≡◌, ℕ, List, Ok, Err, Result}
use Rattle.frame.specs.declared.writing.WriteFault.TheVariants as write
use Rattle.frame.specs.declared.rewriting.RewriteFault.{RewriteFault}
use Rattle.frame.specs.declared.rewriting.RewriteFault.TheVariants.{Frame, Memory}
use Rattle.frame.specs.Paths.{path_read}
use Rattle.frame.specs.Refusals.{refusal_of}
use Rattle.frame.specs.Writes.{Writes, write_question}

-- the number of the question that each fault answers no
abbrev pub rewrite_question : RewriteFault → ℕ
rewrite_question (Frame f) = (refusal_of f).number
rewrite_question Memory = write_question write.Memory

-- the answer and the memory at the end: a refused frame changes nothing, an accepted one is written
abbrev pub Rewrites : (bs out out' : List ℕ) → Result ℕ RewriteFault → Type 0
Rewrites bs out out' (Ok k) = Writes bs out out' (Ok k)
Rewrites bs out out' (Err Memory) = Writes bs out out' (Err write.Memory)
Rewrites bs out out' (Err (Frame f)) = (path_read bs ≡ Err f) × (out' ≡ out)
