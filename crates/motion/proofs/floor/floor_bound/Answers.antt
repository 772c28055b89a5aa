use Rattle.std.proofs.Common.{◌≡◌, pos, Some, to_z-of_z}
use Rattle.grade.specs.Ranks.{speed_rank}
use Rattle.grade.specs.Tops.{speed_top}
use Rattle.limit.specs.NumbersLemmas.{greatest_by}
use Rattle.motion.specs.Floors.{floored}
use Rattle.motion.specs.FloorsLemmas.{floored_is, under_floored}
use Rattle.motion.proofs.floor.floor_bound.Goals as goal

pub returns : goal.returns
returns c =
    let f = c.ranges.n in
    let e : pos (speed_rank c.floored_quotient.result) ≡ floored c.args.factor c.args.n =
    floored_is c.args.factor (speed_rank c.floored_quotient.result) c.args.n (simp to_z-of_z at c.if-n-lt0.false) (simp to_z-of_z at c.floored_quotient.ensures) in
    record {
      number = e;
      greatest = greatest_by speed_rank speed_top (λ x. x.ok) _ (floored c.args.factor c.args.n) (λ g l. under_floored c.args.factor c.args.n g c.requires l) (Some c.floored_quotient.result) e;
    }
