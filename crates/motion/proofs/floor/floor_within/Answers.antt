use Rattle.std.proofs.Common.{◌/◌, ◌<◌, ◌^◌, nat_abs, pos, ◌*ℤ◌, arith, w64, SFits}
use Rattle.std.proofs.lemmas.Int.{ints, clamps, to_z-of_z, to_z_pos}
use Rattle.motion.proofs.Flooring.{le_true, le_false, stays_at, falls_to, product_fits}
use Rattle.motion.proofs.floor.floor_within.Goals as goal

pub returns-then-factor-most : goal.returns-then-factor-most
returns-then-factor-most c =
    let f : SFits w64 c.args.most = omega (arith, ints, c.requires.least, c.requires.top) in
    let fn = c.ranges.n in
    let l : c.args.factor < 2 ^ 63 = omega (arith, c.ranges.factor) in
    let p = product_fits c.args.factor c.args.most (omega (arith, c.ranges.factor)) c.requires.least c.requires.top in
    simp to_z-of_z (stays_at c.args.factor c.requires.some c.args.most c.args.n c.requires.least c.requires.top (le_true _ _ (simp (to_z-of_z, to_z_pos) at c.if-factor-most.true)))

pub returns-else-n-lt0 : goal.returns-else-n-lt0
returns-else-n-lt0 c =
    let f : SFits w64 c.args.most = omega (arith, ints, c.requires.least, c.requires.top) in
    let fn = c.ranges.n in
    let l : c.args.factor < 2 ^ 63 = omega (arith, c.ranges.factor) in
    let p = product_fits c.args.factor c.args.most (omega (arith, c.ranges.factor)) c.requires.least c.requires.top in
    let above = le_false (pos c.args.factor *ℤ c.args.most) c.args.n (simp (to_z-of_z, to_z_pos) at c.if-factor-most.false) in
    let far = falls_to c.args.factor c.requires.some c.args.most c.args.n c.requires.least c.requires.top (simp to_z-of_z at c.if-n-lt0.false) above in
    let small : nat_abs c.args.n / c.args.factor < 2 ^ 63 = omega (arith, ints, clamps, c.requires.top, far.lesser) in
    simp (to_z-of_z, to_z_pos) far
