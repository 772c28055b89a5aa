-- A make's bound, by the make that is read.
use Rattle.std.proofs.Common.{take, Some, sym, ap, ◌∙◌, subst}
use Rattle.frame.specs.Views.{path_of}
use Rattle.binding.specs.Binding.{sheets_on}
use Rattle.furqyzet_c.specs.Naming.{BindsFor}
use Rattle.furqyzet_c.proofs.naming.bound_for.Goals as goal

pub returns-in-Some-Classes : goal.returns-in-Some-Classes
returns-in-Some-Classes c =
    let p = path_of c.args.frame.bytes.now in
    subst (λ m. BindsFor p m (sheets_on p c.args.classes.now c.args.speeds.now) c.args.sample c.number_of.result)
    (sym (ap Some c.in-Some-Classes.field-0-is) ∙ sym c.in-Some-Classes.is ∙ c.make_in.ensures) (c.class_bound.result, c.class_bound.ensures (take p.header.samples c.args.speeds.now), c.number_of.ensures)

pub returns-in-Some-Speeds : goal.returns-in-Some-Speeds
returns-in-Some-Speeds c =
    let p = path_of c.args.frame.bytes.now in
    subst (λ m. BindsFor p m (sheets_on p c.args.classes.now c.args.speeds.now) c.args.sample c.number_of-in-Some-Speeds.result)
    (sym (ap Some c.in-Some-Speeds.field-0-is) ∙ sym c.in-Some-Speeds.is ∙ c.make_in.ensures) (c.speed_bound.result, c.speed_bound.ensures, c.number_of-in-Some-Speeds.ensures)
