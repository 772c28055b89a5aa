use Rattle.std.proofs.Common.{◌<◌, ◌^◌, subst, arith, ap, sym, ◌∙◌}
use Rattle.frame.specs.declared.header.Header.{Header}
use Rattle.frame.specs.Views.{path_of}
use Rattle.prepared.specs.Lists.{sample_bounds_of, row_bounds_of}
use Rattle.prepared.proofs.Fills.{front_is, front_long}
use Rattle.prepared.proofs.Known.{samples_long, rows_long}
use Rattle.prepared.proofs.view.Prepared.over.Goals as goal

pub slice_bounds-result-end : goal.slice_bounds-result-end
slice_bounds-result-end c =
    let frame = c.args.frame in
    front_long (sample_bounds_of (path_of frame.bytes.now)) c.args.samples.now c.header-header.result.samples
    (samples_long frame.bytes.now frame.sound ∙ ap (λ (h : Header). h.samples) (sym c.header-header.ensures)) c.requires.samples

pub slice_bounds-result-end-2 : goal.slice_bounds-result-end-2
slice_bounds-result-end-2 c =
    let frame = c.args.frame in
    front_long (row_bounds_of (path_of frame.bytes.now)) c.args.rows.now c.header-header.result.rows
    (rows_long frame.bytes.now frame.sound ∙ ap (λ (h : Header). h.rows) (sym c.header-header.ensures)) c.requires.rows

pub invariant_of-result : goal.invariant_of-result
invariant_of-result c =
    let frame = c.args.frame in
    record {
      sampled = front_is (sample_bounds_of (path_of frame.bytes.now)) c.args.samples.now c.header-header.result.samples
          (samples_long frame.bytes.now frame.sound ∙ ap (λ (h : Header). h.samples) (sym c.header-header.ensures)) c.requires.samples;
      narrow = subst (λ (h : Header). h.spacing < 2 ^ 16) c.header-header.ensures (omega arith);
      rowed = front_is (row_bounds_of (path_of frame.bytes.now)) c.args.rows.now c.header-header.result.rows
          (rows_long frame.bytes.now frame.sound ∙ ap (λ (h : Header). h.rows) (sym c.header-header.ensures)) c.requires.rows;
    }
