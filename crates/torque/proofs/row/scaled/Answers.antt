use Rattle.std.proofs.Common.{◌*◌, ◌^◌, ◌<◌, pos, ◌*ℤ◌, arith, w64, SFits}
use Rattle.std.proofs.lemmas.Int.{ints, to_z-of_z, to_z_pos}
use Rattle.torque.proofs.Widths.{scaled_small, fits_small}
use Rattle.torque.proofs.row.scaled.Goals as goal

pub overflow_mul-result-2 : goal.overflow_mul-result-2
overflow_mul-result-2 c =
    let f = c.ranges.n in
    let f64 : SFits w64 c.args.n = omega (arith, ints) in
    let l : 2 * c.args.h < 2 ^ 63 = omega arith in
    simp (to_z-of_z, to_z_pos) (fits_small _ (scaled_small (2 * c.args.h) c.args.n (omega arith) c.requires))

pub returns : goal.returns
returns c =
    let f = c.ranges.n in
    let f64 : SFits w64 c.args.n = omega (arith, ints) in
    let l : 2 * c.args.h < 2 ^ 63 = omega arith in
    let s = scaled_small (2 * c.args.h) c.args.n (omega arith) c.requires in
    let k : SFits w64 (pos (2 * c.args.h) *ℤ c.args.n) = fits_small _ s in
    record { value = simp (to_z-of_z, to_z_pos); small = simp (to_z-of_z, to_z_pos) s }
