use Rattle.std.proofs.Common.{◌≡◌, rules}
use Rattle.runs.specs.declared.call.Call.TheVariants.{Cut, Lift, Look}
use Rattle.runs.specs.declared.reply.Reply.TheVariants.{Seen}
use Rattle.runs.specs.declared.stage.Make.TheVariants.{Classes, Speeds}
use Rattle.sequence.proofs.Naming.{performs, changes}
use Rattle.sequence.proofs.performing.perform.Goals as goal

pub returns-in-Cut-Classes-default-default : goal.returns-in-Cut-Classes-default-default
returns-in-Cut-Classes-default-default g c =
    let call_is : c.args.call ≡ Cut Classes c.in-Cut-Classes-default-default.sample c.in-Cut-Classes-default-default.value = search rules in
    changes _ _ c.args.call _ _ _ _ call_is c.class_cut.result c.and.ensures (c.class_cut.ensures.does _ _)

pub returns-in-Cut-Speeds-default-default : goal.returns-in-Cut-Speeds-default-default
returns-in-Cut-Speeds-default-default g c =
    let call_is : c.args.call ≡ Cut Speeds c.in-Cut-Speeds-default-default.sample c.in-Cut-Speeds-default-default.value = search rules in
    changes _ _ c.args.call _ _ _ _ call_is c.speed_cut.result c.and-in-Cut-Speeds-default-default.ensures (c.speed_cut.ensures.does _ _)

pub returns-in-Lift-Classes-default-default : goal.returns-in-Lift-Classes-default-default
returns-in-Lift-Classes-default-default g c =
    let call_is : c.args.call ≡ Lift Classes c.in-Lift-Classes-default-default.sample c.in-Lift-Classes-default-default.value = search rules in
    changes _ _ c.args.call _ _ _ _ call_is c.class_lift.result c.and-in-Lift-Classes-default-default.ensures (c.class_lift.ensures.does _ _)

pub returns-in-Lift-Speeds-default-default : goal.returns-in-Lift-Speeds-default-default
returns-in-Lift-Speeds-default-default g c =
    let call_is : c.args.call ≡ Lift Speeds c.in-Lift-Speeds-default-default.sample c.in-Lift-Speeds-default-default.value = search rules in
    changes _ _ c.args.call _ _ _ _ call_is c.speed_lift.result c.and-in-Lift-Speeds-default-default.ensures (c.speed_lift.ensures.does _ _)

pub returns-in-Look : goal.returns-in-Look
returns-in-Look g c = performs _ _ c.args.call (Look c.in-Look.sample) _ _ _ c.in-Look.is (λ s. Seen s) c.look.result c.map-in-Look.ensures.cases (c.look.ensures.does _ _)
