use Rattle.std.proofs.Common.{ap, sym, ◌∙◌, arith}
use Rattle.frame.specs.declared.header.Header.{Header}
use Rattle.frame.specs.Views.{path_of}
use Rattle.sources.proofs.Counted.{samples_counted}
use Rattle.prepared.specs.Lists.{sample_bounds_of}
use Rattle.prepared.proofs.Before.{before_grows}
use Rattle.prepared.proofs.Fills.{filled_more, filled, in_front}
use Rattle.prepared.proofs.Known.{samples_long}
use Rattle.prepared.proofs.Listed.{sample_bounds_at}
use Rattle.prepared.proofs.sample_filling.fill_samples.Goals as goal

pub loop-at-preserved : goal.loop-at-preserved
loop-at-preserved c =
    let frame = c.args.frame in
    let p = path_of frame.bytes.now in
    let count = ap (λ (h : Header). h.samples) c.header.ensures in
    let l = in_front c.args.samples.now c.header.result.samples c.loop-at.at (omega (arith, count, c.requires)) c.loop-at-test.true in
    let m = samples_long frame.bytes.now frame.sound in (
      filled_more (sample_bounds_of p) c.loop-at.front c.loop-at.at c.sample_bounds.result c.sample_bounds.result (omega arith) (omega (arith, count, m)) c.loop-at.invariant.0
          (c.sample_bounds.ensures ∙ sym (sample_bounds_at p c.loop-at.at c.sample_bounds.result (omega (arith, count, samples_counted frame.bytes.now frame.sound)))),
      omega (arith, c.first_row_from-first_row.ensures, before_grows c.loop-at.at p.rows),
    )

pub returns : goal.returns
returns c =
    let frame = c.args.frame in
    let count = ap (λ (h : Header). h.samples) c.header.ensures in
    filled (sample_bounds_of (path_of frame.bytes.now)) c.args.samples.now c.loop-at.at c.loop-at.front c.header.result.samples (omega (arith, count, c.requires))
    (omega (arith, count, samples_long frame.bytes.now frame.sound)) c.loop-at.auto.front c.loop-at-test.false c.loop-at.invariant.0
