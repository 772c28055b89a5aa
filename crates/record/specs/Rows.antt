-- Torque rows: the record as it lies, the questions asked of it, the row that it stands for, and its bytes.
use Rattle.std.specs.Prelude.{ℕ, ◌+◌, not, List, ◌++◌, Ok, Result, ◌==◌, int_lt, nat_le, nat_lt, unsigned_abs}
use Rattle.std.proofs.Common.{to_z, of_z}
use Rattle.std.specs.Int.{w32}
use Rattle.words.specs.Words.{be16_at, be32_at, be16, be32}
use Rattle.torque.specs.declared.row.Row.{Row}
use Rattle.torque.specs.Rows.{weight}
use Rattle.torque.specs.Soundness.{small, weighing}
use Rattle.record.specs.declared.row.RowWords.{RowWords}
use Rattle.record.specs.declared.row.RowPlace.{RowPlace}
use Rattle.record.specs.declared.row.RowFault.{RowFault}
use Rattle.record.specs.declared.row.RowFault.TheVariants.{Gap, ZeroBytes, Order, D, C, G, Lo, Hi, LoAboveHi, NoD, Weight}
use Rattle.clause.specs.Asking.{ask, within}

-- gap, zero, d, c, g, lo, hi
abbrev pub row_words_at : List ℕ → ℕ → RowWords
row_words_at bs at = record {
  gap = be16_at bs (at + 0);
  zero = be16_at bs (at + 2);
  d = be32_at bs (at + 4);
  c = be32_at bs (at + 8);
  g = be32_at bs (at + 12);
  lo = be32_at bs (at + 16);
  hi = be32_at bs (at + 20);
}

abbrev pub row_of : RowWords → Row
row_of w = record { gap = w.gap; d = to_z w32 w.d; c = to_z w32 w.c; g = to_z w32 w.g; lo = to_z w32 w.lo; hi = to_z w32 w.hi }

abbrev pub sizes_read : Row → Result (Unit {0}) RowFault
sizes_read r =
    ask (small r.d) D
    (ask (small r.c) C
    (ask (small r.g) G
    (ask (small r.lo) Lo
    (ask (small r.hi) Hi
    (ask (not (int_lt r.hi r.lo)) LoAboveHi
    (Ok tt))))))

abbrev pub weight_read : ℕ → Row → Result Row RowFault
weight_read h r = ask (nat_lt 0 (unsigned_abs r.d)) NoD (ask (weighing r.d (weight h r)) Weight (Ok r))

unfoldable pub numbers_read : ℕ → Row → Result Row RowFault
numbers_read h r = within (λ f. f) (sizes_read r) (λ _. weight_read h r)

abbrev pub row_read : RowPlace → RowWords → Result Row RowFault
row_read p w =
    ask (nat_le (w.gap + 2) p.samples) Gap
    (ask (w.zero == 0) ZeroBytes
    (ask (nat_le p.gap_before w.gap) Order
    (numbers_read p.spacing (row_of w))))

abbrev pub words_of_row : Row → RowWords
words_of_row r = record { gap = r.gap; zero = 0; d = of_z w32 r.d; c = of_z w32 r.c; g = of_z w32 r.g; lo = of_z w32 r.lo; hi = of_z w32 r.hi }

abbrev pub row_bytes : RowWords → List ℕ
row_bytes w = be16 w.gap ++ (be16 w.zero ++ (be32 w.d ++ (be32 w.c ++ (be32 w.g ++ (be32 w.lo ++ be32 w.hi)))))
