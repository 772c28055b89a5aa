use Rattle.prepared.proofs.Reading.{offsets_many}
use Rattle.prepared.proofs.offsets.PreparedOffsets.len.Goals as goal

pub returns : goal.returns
returns c = let s = c.args.self.now in offsets_many s
