use Rattle.std.proofs.Common.{◌*◌, ◌<◌, ◌≤◌, ◌^◌, pos, ◌+ℤ◌, subst, arith, w64, SFits}
use Rattle.std.proofs.lemmas.Int.{ints, to_z-of_z, to_z_pos}
use Rattle.std.proofs.lemmas.Nat.{mul-le}
use Rattle.limit.specs.Numbers.{AsFar}
use Rattle.motion.specs.Floors.{floored}
use Rattle.motion.proofs.triple.Triple.within.Goals as goal

pub returns : goal.returns
returns c =
    let t = c.args.self in
    let w = c.rank.result in
    let most : SFits w64 c.args.most = omega (arith, ints, c.requires.least, c.requires.top) in
    let answer : SFits w64 c.floor_within.result = omega (arith, ints, c.floor_within.type_inv) in
    let top : w ≤ 2 ^ 31 = omega (arith, c.rank.ensures, c.args.neighbour.ok) in
    let share : t.near * w ≤ 2 ^ 24 * 2 ^ 31 = mul-le t.near w (2 ^ 24) (2 ^ 31) c.requires.fits.near_small top in
    let constant : SFits w64 t.constant = omega (arith, ints, c.requires.fits.constant_small) in
    let sum : SFits w64 (pos (t.near * w) +ℤ t.constant) = omega (arith, ints, share, c.requires.fits.constant_small) in
    let small : t.near * w < 2 ^ 63 = omega (arith, share) in
    let far : AsFar c.args.most (floored t.own (pos (t.near * w) +ℤ t.constant)) c.floor_within.result = simp (to_z-of_z, to_z_pos) at c.floor_within.ensures in
    simp to_z-of_z (subst (λ n. AsFar c.args.most (floored t.own (pos (t.near * n) +ℤ t.constant)) c.floor_within.result) c.rank.ensures far)
