use Rattle.std.proofs.Common.{ap, ◌∙◌}
use Rattle.frame.specs.declared.header.Header.{Header}
use Rattle.sources.proofs.Counted.{rows_counted}
use Rattle.sources.proofs.rows.FrameRowsRows.len.Goals as goal

pub returns : goal.returns
returns c =
    let frame = c.args.self.now.frame in
    ap (λ (h : Header). h.rows) c.header.ensures ∙ rows_counted frame.bytes.now frame.sound
