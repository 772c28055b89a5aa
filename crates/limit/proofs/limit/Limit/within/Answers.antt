use Rattle.std.proofs.Common.{◌≡◌, negsuc, ◌≤ℤ◌, arith, w64, SFits}
use Rattle.std.specs.Int.{int_min}
use Rattle.std.proofs.lemmas.Int.{ints, clamps, to_z-of_z}
use Rattle.grade.proofs.Ranking.{ranks_within}
use Rattle.grade.specs.Ranks.{ranks}
use Rattle.limit.proofs.limit.Limit.within.Goals as goal

pub returns : goal.returns
returns g c =
    let z = g.Self.Limit.number c.args.self.now (ranks g.G.Grade.rank c.args.cells.now) c.args.at in
    let low : negsuc 0 ≤ℤ z = g.met.Self.Limit.low c.args.self.now _ c.args.at (ranks_within g.G.Grade.rank g.G.Grade.top g.met.G.Grade.within c.args.cells.now) in
    let most = c.ranges.most in
    let answer : SFits w64 c.min.result = omega (arith, ints, c.min.type_inv) in
    let number : SFits w64 c.number_of.result = omega (arith, ints, c.number_of.type_inv) in
    let lesser : c.min.result ≡ int_min c.args.most c.number_of.result = simp to_z-of_z at c.min.ensures.value in
    simp to_z-of_z (record { lesser = omega (arith, ints, clamps, c.requires.least); least = omega (arith, ints, clamps, c.requires.least) })
