-- Gaps: the record as it lies, the questions asked of it, and its bytes.
use Rattle.std.specs.Prelude.{ℕ, ◌+◌, List, ◌∷◌, ◌++◌, Ok, Result, ◌==◌, nat_le, slice_index}
use Rattle.words.specs.Words.{be16_at, be32_at, be16, be32}
use Rattle.record.specs.declared.gap.Gap.{Gap}
use Rattle.record.specs.declared.gap.GapWords.{GapWords}
use Rattle.record.specs.declared.gap.GapFault.{GapFault}
use Rattle.record.specs.declared.gap.GapFault.TheVariants.{Rise, Fall, ZeroBytes, Up, Down}
use Rattle.clause.specs.Asking.{ask}

-- rise, fall, zero, up, down
abbrev pub gap_words_at : List ℕ → ℕ → GapWords
gap_words_at bs at = record {
  gap = record { rise = slice_index bs (at + 0); fall = slice_index bs (at + 1); up = be32_at bs (at + 4); down = be32_at bs (at + 8) };
  zero = be16_at bs (at + 2);
}

abbrev pub gap_read : GapWords → Result Gap GapFault
gap_read w =
    ask (nat_le w.gap.rise 7) Rise
    (ask (nat_le w.gap.fall 7) Fall
    (ask (w.zero == 0) ZeroBytes
    (ask (nat_le w.gap.up 2147483647) Up
    (ask (nat_le w.gap.down 2147483647) Down
    (Ok w.gap)))))

abbrev pub words_of_gap : Gap → GapWords
words_of_gap g = record { gap = g; zero = 0 }

abbrev pub gap_bytes : GapWords → List ℕ
gap_bytes w = w.gap.rise ∷ w.gap.fall ∷ (be16 w.zero ++ (be32 w.gap.up ++ be32 w.gap.down))
