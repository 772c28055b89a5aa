use Rattle.binding.proofs.Firsts.{class_numbers}
use Rattle.binding.proofs.classes.ClassPlacePlace.first.Goals as goal

pub returns : goal.returns
returns c =
    let p = c.args.self in
    c.first_in_classes.ensures _ (class_numbers p.frame.bytes.now p.classes.now p.at c.cell.result c.cell.ensures _ c.class_limit-limit.ensures.steps)
