use Rattle.prepared.proofs.Reading.{rows_many}
use Rattle.prepared.proofs.rows.PreparedRows.len.Goals as goal

pub returns : goal.returns
returns c = let s = c.args.self.now in rows_many s
