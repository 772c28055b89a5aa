-- The number that the first allows is one to ask the second about.
use Rattle.std.proofs.Common.{◌≡◌, arith, w64, SFits}
use Rattle.std.specs.Int.{int_min}
use Rattle.std.proofs.lemmas.Int.{ints, clamps, to_z-of_z}
use Rattle.limit.specs.Numbers.{clamped}
use Rattle.limit.proofs.pair.PairLimit.within.Goals as goal

pub returns : goal.returns
returns g c =
    let first : SFits w64 c.within-first.result.number = omega (arith, ints, clamps, c.within-first.ensures.lesser, c.within-first.ensures.least, c.requires.top) in
    let second : clamped c.within.result.number ≡ int_min (clamped c.within-first.result.number) _ = simp to_z-of_z at c.within.ensures.lesser in
    record { lesser = omega (arith, ints, clamps); least = c.within.ensures.least }
