use Rattle.std.proofs.Common.{List, take, ap, subst}
use Rattle.grade.specs.declared.cell.Cell.{Cell}
use Rattle.grade.specs.declared.class.Class.{Class}
use Rattle.grade.specs.declared.speed.Speed.{Speed}
use Rattle.runs.specs.declared.stage.Make.TheVariants.{Speeds}
use Rattle.frame.specs.Views.{path_of}
use Rattle.job.specs.Whole.{sheets_of}
use Rattle.binding.specs.Binding.{Binds}
use Rattle.binding.proofs.Laws.{no_speed, speed_there}
use Rattle.binding.proofs.naming.speed_bound.Goals as goal

pub returns-in_err-find : goal.returns-in_err-find
returns-in_err-find c =
    let path = path_of c.args.frame.bytes.now in
    let cs : List (Cell Class) = c.of_samples-classes_of_path.result.now in
    let ss : List (Cell Speed) = c.of_samples-speeds_of_path.result.now in
    let r = c.from_residual.result in
    subst (λ (x : List (Cell Class)). Binds path (sheets_of x (take path.header.samples c.args.speeds.now)) Speeds c.args.at r) c.of_samples-classes_of_path.ensures
    (subst (λ (x : List (Cell Speed)). Binds path (sheets_of cs x) Speeds c.args.at r) c.of_samples-speeds_of_path.ensures
    (no_speed path cs ss c.args.at r c.from_residual.ensures c.in_err-find.ensures))

pub returns : goal.returns
returns c =
    let path = path_of c.args.frame.bytes.now in
    let cs : List (Cell Class) = c.of_samples-classes_of_path.result.now in
    let ss : List (Cell Speed) = c.of_samples-speeds_of_path.result.now in
    let p = c.in_ok-find.field-0 in
    let q = p.of_class in
    let f = c.in_ok-find.ensures in
    let r = c.binding.result in
    subst (λ (x : List (Cell Class)). Binds path (sheets_of x (take path.header.samples c.args.speeds.now)) Speeds c.args.at r) c.of_samples-classes_of_path.ensures
    (subst (λ (x : List (Cell Speed)). Binds path (sheets_of cs x) Speeds c.args.at r) c.of_samples-speeds_of_path.ensures
    (speed_there path cs ss c.args.at (path_of q.frame.bytes.now) q.classes.now p.speeds.now q.at (ap path_of f.0) f.1 f.2 f.3 q.there p.there r c.binding.ensures))
