use Rattle.std.proofs.Common.{sym}
use Rattle.sweep.proofs.Reading.{cell_read}
use Rattle.binding.proofs.reading.cell_at.Goals as goal

pub returns : goal.returns
returns g c = sym (cell_read g.G.Grade.rank c.args.cells.now c.args.at c.index-cells-at.result c.index-cells-at.is c.requires)
