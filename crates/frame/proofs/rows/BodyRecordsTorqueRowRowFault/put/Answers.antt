use Rattle.std.proofs.Common.{sym, ◌∙◌, arith}
use Rattle.frame.proofs.Puts.{row_again}
use Rattle.frame.proofs.rows.BodyRecordsTorqueRowRowFault.put.Goals as goal

pub returns : goal.returns
returns c =
    let body = c.args.self.now in
    let again = row_again body.bytes.now body.header c.args.index c.requires.bytes c.unwrap.result (omega (arith, body.long)) (sym c.read-read.ensures ∙ c.unwrap.ensures) in
    cc
