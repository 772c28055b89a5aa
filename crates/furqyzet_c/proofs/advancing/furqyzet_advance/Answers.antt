use Rattle.runs.specs.declared.call.Call.TheVariants.{Advance}
use Rattle.furqyzet_c.proofs.Acting.{acts_of_lent}
use Rattle.furqyzet_c.proofs.advancing.furqyzet_advance.Goals as goal

pub returns : goal.returns
returns c =
    let call = c.perform_words in
    acts_of_lent (Advance c.args.allowance) c.args.job.now call.new.words call.result c.args.frame.now _ c.args.classes.now c.args.speeds.now
    _ call.new.classes _ call.new.speeds c.over.ensures c.class_cells.ensures.value c.speed_cells.ensures.value call.ensures
