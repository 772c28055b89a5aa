use Rattle.std.proofs.Common.{rules, arith}
use Rattle.prepared.proofs.Reading.{offsets_many, offset_there, offset_kept, few}
use Rattle.prepared.proofs.offsets.PreparedOffsets.offset.Goals as goal

pub offset_bounds-self-at : goal.offset_bounds-self-at
offset_bounds-self-at c = let s = c.args.self.now in omega (arith, c.requires, offsets_many s, few s)

pub bounds-self-at : goal.bounds-self-at
bounds-self-at c = let s = c.args.self.now in omega (arith, c.requires, offsets_many s)

pub returns : goal.returns
returns c =
    let s = c.args.self.now in
    offset_kept (search rules) (offset_there s c.args.at _ (omega (arith, c.requires, offsets_many s)))
