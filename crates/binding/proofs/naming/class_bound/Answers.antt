use Rattle.std.proofs.Common.{List, take, refl, ap, ◌∙◌, subst}
use Rattle.grade.specs.declared.cell.Cell.{Cell}
use Rattle.grade.specs.declared.class.Class.{Class}
use Rattle.runs.specs.declared.stage.Make.TheVariants.{Classes}
use Rattle.frame.specs.Views.{path_of}
use Rattle.job.specs.Whole.{sheets_of}
use Rattle.binding.specs.Binding.{Binds}
use Rattle.binding.proofs.Laws.{no_class, class_there}
use Rattle.binding.proofs.naming.class_bound.Goals as goal

pub returns-in_err-find : goal.returns-in_err-find
returns-in_err-find c speeds =
    let path = path_of c.args.frame.bytes.now in
    let r = c.from_residual.result in
    subst (λ (x : List (Cell Class)). Binds path (sheets_of x speeds) Classes c.args.at r) c.of_samples-classes_of_path.ensures
    (no_class path c.of_samples-classes_of_path.result.now speeds c.args.at r c.from_residual.ensures c.in_err-find.ensures)

pub returns : goal.returns
returns c speeds =
    let path = path_of c.args.frame.bytes.now in
    let p = c.in_ok-find.field-0 in
    let f = c.in_ok-find.ensures in
    class_there path (take path.header.samples c.args.classes.now) speeds c.args.at (path_of p.frame.bytes.now) p.classes.now speeds p.at (ap path_of f.0) (f.1 ∙ c.of_samples-classes_of_path.ensures) refl f.2 p.there c.binding.result c.binding.ensures
