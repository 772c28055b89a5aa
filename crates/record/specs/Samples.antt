-- Samples: the record as it lies, the questions asked of it, the sample that it stands for, and its bytes.
use Rattle.std.specs.Prelude.{ℕ, ◌+◌, Bool, true, cond, List, ◌∷◌, ◌++◌, Ok, Result, ◌==◌, nat_le, slice_index}
use Rattle.std.proofs.Common.{to_z, of_z}
use Rattle.std.specs.Int.{w32}
use Rattle.words.specs.Words.{be32_at, be32}
use Rattle.record.specs.declared.sample.Sample.{Sample}
use Rattle.record.specs.declared.sample.SampleWords.{SampleWords}
use Rattle.record.specs.declared.sample.SampleFault.{SampleFault}
use Rattle.record.specs.declared.sample.SampleFault.TheVariants.{Kind, ZeroByte, ClassCap, ClassFloor, Clause, SpeedFloor, EndOffset}
use Rattle.clause.specs.Asking.{ask, within}
use Rattle.clause.specs.Clauses.{clause_read, clause_words}

-- kind, class cap, class floor, zero, two numbers, speed floor, q
abbrev pub sample_words_at : List ℕ → ℕ → SampleWords
sample_words_at bs at = record {
  clause = record { kind = slice_index bs (at + 0); first = be32_at bs (at + 4); second = be32_at bs (at + 8) };
  class_cap = slice_index bs (at + 1);
  class_floor = slice_index bs (at + 2);
  zero = slice_index bs (at + 3);
  speed_floor = be32_at bs (at + 12);
  q = be32_at bs (at + 16);
}

abbrev pub sample_read : (end : Bool) → SampleWords → Result Sample SampleFault
sample_read end w =
    ask (nat_le w.clause.kind 3) Kind
    (ask (w.zero == 0) ZeroByte
    (ask (nat_le w.class_cap 7) ClassCap
    (ask (nat_le w.class_floor 7) ClassFloor
    (within Clause (clause_read w.clause) (λ c.
    ask (nat_le w.speed_floor 2147483647) SpeedFloor
    (ask (cond end (w.q == 0) true) EndOffset
    (Ok (record { clause = c; class_cap = w.class_cap; class_floor = w.class_floor; speed_floor = w.speed_floor; q = to_z w32 w.q }))))))))

abbrev pub words_of_sample : Sample → SampleWords
words_of_sample s = record { clause = clause_words s.clause; class_cap = s.class_cap; class_floor = s.class_floor; zero = 0; speed_floor = s.speed_floor; q = of_z w32 s.q }

abbrev pub sample_bytes : SampleWords → List ℕ
sample_bytes w =
    w.clause.kind ∷ w.class_cap ∷ w.class_floor ∷ w.zero
    ∷ (be32 w.clause.first ++ (be32 w.clause.second ++ (be32 w.speed_floor ++ be32 w.q)))
