use Rattle.std.proofs.Common.{arith}
use Rattle.prepared.proofs.Reading.{steps_many, step_there, few}
use Rattle.prepared.proofs.steps.PreparedSteps.step.Goals as goal

pub overflow_add-result : goal.overflow_add-result
overflow_add-result c = let s = c.args.self.now in omega (arith, c.requires, steps_many s, few s)

pub offset_bounds-self-gap : goal.offset_bounds-self-gap
offset_bounds-self-gap c = let s = c.args.self.now in omega (arith, c.requires, steps_many s, few s)

pub offset_bounds-self-gap-2 : goal.offset_bounds-self-gap-2
offset_bounds-self-gap-2 c = let s = c.args.self.now in omega (arith, c.requires, steps_many s, few s)

pub bounds-self-gap : goal.bounds-self-gap
bounds-self-gap c = let s = c.args.self.now in omega (arith, c.requires, steps_many s)

pub bounds-self-gap-2 : goal.bounds-self-gap-2
bounds-self-gap-2 c = let s = c.args.self.now in omega (arith, c.requires, steps_many s)

pub returns : goal.returns
returns c = let s = c.args.self.now in step_there s c.args.gap _ c.requires
