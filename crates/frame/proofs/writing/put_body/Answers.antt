use Rattle.std.proofs.Common.{ap, ◌∙◌}
use Rattle.words.specs.Words.{written}
use Rattle.frame.proofs.Again.{all_written}
use Rattle.frame.proofs.writing.put_body.Goals as goal

pub returns : goal.returns
returns c =
    all_written c.args.body.bytes.now c.args.out.now c.put.new.out c.put_records.new.out c.put_records-2.new.out c.put_records-3.new.out c.args.body.header
    c.requires.sound c.requires.room (c.put.ensures ∙ ap (written c.args.out.now 0) c.bytes.ensures) c.put_records.ensures c.put_records-2.ensures c.put_records-3.ensures
