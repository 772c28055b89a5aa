use Rattle.std.proofs.Common.{subst}
use Rattle.job.specs.Making.{Makes}
use Rattle.frame.specs.Views.{path_of}
use Rattle.sources.proofs.Counted.{samples_counted}
use Rattle.planner.proofs.Makes.{made_as}
use Rattle.planner.proofs.making.make_accepted.Goals as goal

pub returns : goal.returns
returns c =
    let bs = c.args.frame.bytes.now in
    made_as (path_of bs) c.samples.result c.args.classes.now c.fill.new.cells c.make.new.classes c.args.speeds.now c.fill-2.new.cells c.make.new.speeds c.unwrap.result
    c.samples.ensures (samples_counted bs c.args.frame.sound) c.fill.ensures c.fill-2.ensures
    (subst (Makes c.samples.result c.fill.new.cells c.make.new.classes c.fill-2.new.cells c.make.new.speeds) c.unwrap.ensures c.make.ensures)
