-- A frame's records written again, as C sees it.
use Rattle.std.specs.Prelude.{◌≡◌, ℕ, List, Ok, Err, Result}
use Rattle.frame.specs.declared.rewriting.RewriteFault.{RewriteFault}
use Rattle.frame.specs.declared.rewriting.RewriteFault.TheVariants.{Frame, Memory}
use Rattle.frame.specs.declared.writing.WriteFault.TheVariants as write
use Rattle.frame.specs.Refusals.{refusal_of}
use Rattle.frame.specs.Rewrites.{Rewrites}
use Rattle.frame.specs.Writes.{write_question}
use Rattle.furqyzet_c.specs.declared.refusal_words.RefusalWords.{RefusalWords}
use Rattle.furqyzet_c.specs.Refusals.{of_number, refusal_words}

abbrev pub fault_words : RewriteFault → RefusalWords
fault_words (Frame f) = refusal_words (refusal_of f)
fault_words Memory = of_number (write_question write.Memory)

-- what is returned, and the refusal
abbrev pub Told : Result ℕ RewriteFault → ℕ → RefusalWords → Type 0
Told (Ok size) k w = (k ≡ size) × (w ≡ of_number 0)
Told (Err f) k w = (k ≡ 0) × (w ≡ fault_words f)

-- what the library promises of r, and r as C sees it
pub record RewritesWords (bs out out' : List ℕ) (k : ℕ) (w : RefusalWords) : Type 0 where
  pub r : Result ℕ RewriteFault
  pub rewrites : Rewrites bs out out' r
  pub told : Told r k w
