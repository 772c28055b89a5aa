-- Each fault of a record: the number of the question that said no, and the offset of its field from the record's first byte.
use Rattle.std.specs.Prelude.{ℕ, ◌<◌}
use lib.Dec.{lit<}
use Rattle.record.specs.declared.asked.Asked.{Asked}
use Rattle.clause.specs.declared.clause.ClauseFault.{ClauseFault}
use Rattle.clause.specs.declared.clause.ClauseFault.TheVariants.{TopSpeedNotFinite, TopSpeedNegative, CurvatureNotFinite, FixedTooGreat, FirstNotZero, SecondNotZero}
use Rattle.record.specs.declared.sample.SampleFault.{SampleFault}
use Rattle.record.specs.declared.sample.SampleFault.TheVariants as sample
use Rattle.record.specs.declared.gap.GapFault.{GapFault}
use Rattle.record.specs.declared.gap.GapFault.TheVariants as gap
use Rattle.record.specs.declared.row.RowFault.{RowFault}
use Rattle.record.specs.declared.row.RowFault.TheVariants as row

abbrev pub asked : (k o : ℕ) → o < 64 → Asked
asked k o h = record { number = k; offset = o; within = h }

-- of the two numbers, the one that does not fit
abbrev pub clause_offset_of : ClauseFault → ℕ
clause_offset_of TopSpeedNotFinite = 4
clause_offset_of TopSpeedNegative = 4
clause_offset_of CurvatureNotFinite = 8
clause_offset_of FixedTooGreat = 4
clause_offset_of FirstNotZero = 4
clause_offset_of SecondNotZero = 8

abbrev pub clause_within : (f : ClauseFault) → clause_offset_of f < 64
clause_within TopSpeedNotFinite = lit< tt
clause_within TopSpeedNegative = lit< tt
clause_within CurvatureNotFinite = lit< tt
clause_within FixedTooGreat = lit< tt
clause_within FirstNotZero = lit< tt
clause_within SecondNotZero = lit< tt

abbrev pub sample_asked : SampleFault → Asked
sample_asked sample.Kind = asked 20 0 (lit< tt)
sample_asked sample.ZeroByte = asked 21 3 (lit< tt)
sample_asked sample.ClassCap = asked 22 1 (lit< tt)
sample_asked sample.ClassFloor = asked 22 2 (lit< tt)
sample_asked (sample.Clause f) = asked 23 (clause_offset_of f) (clause_within f)
sample_asked sample.SpeedFloor = asked 24 12 (lit< tt)
sample_asked sample.EndOffset = asked 25 16 (lit< tt)

abbrev pub gap_asked : GapFault → Asked
gap_asked gap.Rise = asked 30 0 (lit< tt)
gap_asked gap.Fall = asked 30 1 (lit< tt)
gap_asked gap.ZeroBytes = asked 31 2 (lit< tt)
gap_asked gap.Up = asked 32 4 (lit< tt)
gap_asked gap.Down = asked 32 8 (lit< tt)

abbrev pub row_asked : RowFault → Asked
row_asked row.Gap = asked 40 0 (lit< tt)
row_asked row.ZeroBytes = asked 41 2 (lit< tt)
row_asked row.Order = asked 42 0 (lit< tt)
row_asked row.D = asked 43 4 (lit< tt)
row_asked row.C = asked 43 8 (lit< tt)
row_asked row.G = asked 43 12 (lit< tt)
row_asked row.Lo = asked 43 16 (lit< tt)
row_asked row.Hi = asked 43 20 (lit< tt)
row_asked row.LoAboveHi = asked 44 16 (lit< tt)
row_asked row.NoD = asked 45 4 (lit< tt)
row_asked row.Weight = asked 46 4 (lit< tt)
