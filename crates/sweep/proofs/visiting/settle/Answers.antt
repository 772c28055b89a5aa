use Rattle.std.proofs.Common.{◌≡◌, ◌<◌, ◌^◌, pos, nat_abs, int_lt, false, arith}
use Rattle.std.proofs.lemmas.Int.{ints, to_z-of_z, to_z_pos}
use Rattle.sweep.proofs.visiting.settle.Goals as goal

pub overflow_cast-rank-2 : goal.overflow_cast-rank-2
overflow_cast-rank-2 g c =
    let f = c.ranges.number in
    let floor : c.rank.result < 2 ^ 63 = omega (arith, c.rank.type_inv) in
    let above : int_lt c.args.number (pos c.rank.result) ≡ false = simp (to_z-of_z, to_z_pos) at c.if-number-rank.false in
    let small : nat_abs c.args.number < 2 ^ 32 = omega (arith, ints, above, c.requires.small, c.requires.within) in
    simp to_z-of_z (omega (arith, ints), omega (arith, small))
