-- The tops of the two makes of grade: the greatest rank that each has.
use Rattle.std.specs.Prelude.{ℕ}

-- the highest permit class
abbrev pub class_top : ℕ
class_top = 7

-- M, the greatest squared speed, in units of 1/65536 m²/s²
abbrev pub speed_top : ℕ
speed_top = 2147483647
