use Rattle.prepared.proofs.Reading.{first_within, first_before, first_found}
use Rattle.prepared.proofs.sides.PreparedSides.first.Goals as goal

pub returns-clause-within : goal.returns-clause-within
returns-clause-within c = let s = c.args.self.now in first_within s c.args.gap _ c.requires

pub returns-clause-before : goal.returns-clause-before
returns-clause-before c = let s = c.args.self.now in first_before s c.args.gap _ c.requires

pub returns-clause-found : goal.returns-clause-found
returns-clause-found c = let s = c.args.self.now in first_found s c.args.gap _ c.requires
