-- A refusal in the words that C reads.
use Rattle.std.specs.Prelude.{ℕ, Ok, Err, Result}
use Rattle.frame.specs.declared.fault.FrameFault.{FrameFault}
use Rattle.frame.specs.declared.refusal.Layer.{Layer}
use Rattle.frame.specs.declared.refusal.Layer.TheVariants.{Frame, Sample, Gap, Torque, Memory}
use Rattle.frame.specs.declared.refusal.Refusal.{Refusal}
use Rattle.frame.specs.Refusals.{refusal_of}
use Rattle.furqyzet_c.specs.declared.refusal_words.RefusalWords.{RefusalWords}

abbrev pub layer_number : Layer → ℕ
layer_number Frame = 0
layer_number Sample = 1
layer_number Gap = 2
layer_number Torque = 3
layer_number Memory = 4

abbrev pub refusal_words : Refusal → RefusalWords
refusal_words r = record { layer = layer_number r.layer; number = r.number; place = r.place }

-- a question of no layer; where the number is 0, none says no
abbrev pub of_number : ℕ → RefusalWords
of_number k = record { layer = 5; number = k; place = 0 }

-- of what the reader answered
abbrev pub reading_words : {A : Type 0} → Result A FrameFault → RefusalWords
reading_words (Ok _) = of_number 0
reading_words (Err f) = refusal_words (refusal_of f)
