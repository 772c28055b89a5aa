-- The laws of limits that read the frame's bytes are those of its path.
use Rattle.std.proofs.Common.{subst}
use Rattle.frame.specs.Views.{path_of}
use Rattle.grade.specs.Tops.{class_top, speed_top}
use Rattle.limit.specs.Numbers.{LimitLaw}
use Rattle.sources.specs.Sources.{class_number}
use Rattle.furqyzet_c.proofs.Own.{own_limits}
use Rattle.furqyzet_c.proofs.limits.lawful_limits.Goals as goal

pub returns-clause-classes : goal.returns-clause-classes
returns-clause-classes c = subst (λ bs. LimitLaw class_top (class_number (path_of bs))) c.class_limit.ensures.steps c.lawful.ensures

pub returns-clause-speeds : goal.returns-clause-speeds
returns-clause-speeds c =
    let speeds = c.speed_limit.ensures in
    own_limits (λ a b. LimitLaw speed_top b) c.args.frame.bytes.now _ _ _ _ c.class_limit.ensures.steps speeds.steps speeds.offsets speeds.rows c.lawful-2.ensures
