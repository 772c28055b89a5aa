use Rattle.std.proofs.Common.{Err, sym, ap, ◌∙◌}
use Rattle.std.proofs.lemmas.Result.{err_from_is_err_and}
use Rattle.frame.specs.declared.fault.FrameFault.{FrameFault}
use Rattle.frame.proofs.Whole.{no_header, no_records}
use Rattle.frame.proofs.reading.read.Goals as goal

pub returns-in_err-header : goal.returns-in_err-header
returns-in_err-header c =
    let p = err_from_is_err_and c.from_residual.result c.from_residual.ensures.1 in
    let fault = c.in_err-header.field-0.0 in
    p.1 ∙ ap (λ (f : FrameFault). Err f) p.2 ∙ sym (no_header c.args.bytes.now fault (sym c.in_err-header.ensures))

pub returns-in_err-ask_records : goal.returns-in_err-ask_records
returns-in_err-ask_records c =
    let p = err_from_is_err_and c.from_residual-in_err-ask_records.result c.from_residual-in_err-ask_records.ensures.1 in
    let fault = c.in_err-ask_records.field-0.0 in
    p.1 ∙ ap (λ (f : FrameFault). Err f) p.2
    ∙ sym (no_records c.args.bytes.now c.in_ok-header.header fault (sym c.in_ok-header.ensures) (sym c.in_err-ask_records.ensures))
