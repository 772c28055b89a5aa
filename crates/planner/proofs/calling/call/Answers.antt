use Rattle.std.proofs.Common.{[], ◌∷◌}
use Rattle.frame.specs.Views.{path_of}
use Rattle.job.specs.Holding.{Held, held}
use Rattle.job.specs.Calling.{Does, Lawful}
use Rattle.sources.specs.Sources.{class_number}
use Rattle.planner.proofs.Plans.{own_speed_limit}
use Rattle.planner.proofs.calling.call.Goals as goal

pub returns-then-header-eq0 : goal.returns-then-header-eq0
returns-then-header-eq0 c =
    let limit = c.speed_limit_without_rows-speed_limit in
    let h : Held = held c.args.job.now c.args.classes.now c.args.speeds.now in
    let h' : Held = held c.call_under.new.job c.call_under.new.classes c.call_under.new.speeds in
    let made = c.call_under.ensures in
    let a = class_number (path_of c.args.frame.bytes.now) in
    let both =
    own_speed_limit (λ b. Does a b c.args.call h h' c.call_under.result × Lawful a b (c.args.call ∷ []) h h')
    c.args.frame.bytes.now
    limit.result.first.steps.frame.bytes.now limit.result.second.first.offsets.frame.bytes.now limit.result.second.second.rows.frame.bytes.now
    limit.ensures.steps limit.ensures.offsets limit.ensures.rows
    (made.does, made.law) in
    record { does = both.0; law = both.1 }

pub returns : goal.returns
returns c =
    let limit = c.speed_limit-speed_limit in
    let h : Held = held c.args.job.now c.args.classes.now c.args.speeds.now in
    let h' : Held = held c.call_under-2.new.job c.call_under-2.new.classes c.call_under-2.new.speeds in
    let made = c.call_under-2.ensures in
    let a = class_number (path_of c.args.frame.bytes.now) in
    let both =
    own_speed_limit (λ b. Does a b c.args.call h h' c.call_under-2.result × Lawful a b (c.args.call ∷ []) h h')
    c.args.frame.bytes.now
    limit.result.first.steps.frame.bytes.now limit.result.second.first.offsets.frame.bytes.now limit.result.second.second.rows.frame.bytes.now
    limit.ensures.steps limit.ensures.offsets limit.ensures.rows
    (made.does, made.law) in
    record { does = both.0; law = both.1 }
