use Rattle.std.proofs.Common.{◌≡◌, ◌-◌, ◌+◌, ◌<◌, length, ℤ, pos, ◌+ℤ◌, ap, sym, ◌∙◌, arith, w32, w64, SFits}
use Rattle.std.specs.Int.{int_min}
use Rattle.std.proofs.lemmas.Int.{ints, clamps, to_z-of_z}
use Rattle.std.proofs.lemmas.List.{length-map}
use Rattle.grade.specs.declared.cell.Cell.{Cell}
use Rattle.grade.specs.declared.speed.Speed.{Speed}
use Rattle.grade.specs.Profiles.{rank}
use Rattle.grade.specs.Ranks.{ranks, speed_rank}
use Rattle.std.specs.Int.Signed.{shr_z}
use Rattle.limit.specs.Numbers.{clamped}
use Rattle.motion.specs.Floors.{floored}
use Rattle.motion.specs.Averages.{around}
use Rattle.motion.specs.AveragesLemmas.{half_within, half_fits, half_least, average_inner}
use Rattle.motion.proofs.average.AverageLimitSpeed.within.Goals as goal

pub returns : goal.returns
returns g c =
    let qs = g.Q.Offsets.offsets c.args.self.now.offsets in
    let p = ranks speed_rank c.args.cells.now in
    let i = c.args.at in
    let most = c.ranges.most in
    let answer : SFits w64 c.min.result = omega (arith, ints, c.min.type_inv) in
    let offset : SFits w32 c.offset.result = omega (arith, ints, c.offset.type_inv) in
    let whole : SFits w64 c.sum-sum.result = omega (arith, ints, c.sum-sum.type_inv) in
    let summed : c.sum-sum.result ≡ pos (speed_rank c.value-before.result + speed_rank c.value.result) +ℤ c.offset.result = simp to_z-of_z at c.sum-sum.ensures in
    let last : i + 1 < length p = omega (arith, length-map c.args.cells.now (λ (x : Cell Speed). speed_rank x.value)) in
    let sum : c.sum-sum.result ≡ around qs p i =
    summed ∙ ap (λ w. pos (w + speed_rank c.value.result) +ℤ c.offset.result) c.value-before.ensures
    ∙ ap (λ w. pos (rank p (i - 1) + w) +ℤ c.offset.result) c.value.ensures ∙ ap (λ (q : ℤ). pos (rank p (i - 1) + rank p (i + 1)) +ℤ q) c.offset.ensures in
    let halved = half_fits c.sum-sum.result whole in
    let lesser : c.min.result ≡ int_min c.args.most (shr_z c.sum-sum.result 2) = simp to_z-of_z at c.min.ensures.value in
    let far : clamped c.min.result ≡ int_min (clamped c.args.most) (floored 2 c.sum-sum.result) = ap clamped lesser ∙ half_within c.args.most c.sum-sum.result c.requires.top in
    let low = half_least c.sum-sum.result (omega (arith, ints, summed, c.offset.type_inv)) in
    simp to_z-of_z (record {
      lesser = far ∙ ap (λ z. int_min (clamped c.args.most) (floored 2 z)) sum
          ∙ ap (int_min (clamped c.args.most)) (sym (average_inner qs p i c.requires.after_first last c.requires.spanned));
      least = omega (arith, ints, clamps, lesser, low, c.requires.least);
    })
