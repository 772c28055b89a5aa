use Rattle.std.proofs.Common.{◌∙◌}
use Rattle.sequence.specs.Running.{placed}
use Rattle.planner.specs.Planning.{PlansFrom}
use Rattle.planner.proofs.Plans.{own_limits}
use Rattle.planner.proofs.planning.plan.Goals as goal

pub returns : goal.returns
returns c =
    let over = c.over-frame.ensures in
    let speeds = c.speed_limit-speed_limit.ensures in
    own_limits (λ a b. PlansFrom c.args.bytes.now a b (placed c.args.calls.now c.args.answers.now) c.args.classes.now c.plan_under.new.classes c.args.speeds.now c.plan_under.new.speeds c.args.answers.now c.plan_under.new.answers c.plan_under.result)
    c.args.bytes.now
    c.class_limit-class_limit.result.steps.frame.bytes.now c.speed_limit-speed_limit.result.first.steps.frame.bytes.now c.speed_limit-speed_limit.result.second.first.offsets.frame.bytes.now c.speed_limit-speed_limit.result.second.second.rows.frame.bytes.now
    (c.class_limit-class_limit.ensures.steps ∙ over) (speeds.steps ∙ over) (speeds.offsets ∙ over) (speeds.rows ∙ over)
    c.plan_under.ensures
