use Rattle.std.proofs.Common.{length, map, ◌∙◌, sym, arith}
use Rattle.std.proofs.lemmas.List.{length-map, get_or-map}
use Rattle.frame.specs.Views.{path_of}
use Rattle.sources.proofs.Counted.{samples_counted}
use Rattle.planner.specs.Starts.{no_sample_of, no_cell}
use Rattle.planner.proofs.Fills.{filled_more, filled, in_front}
use Rattle.planner.proofs.filling.fill.Goals as goal

pub invariant_of-cell_of : goal.invariant_of-cell_of
invariant_of-cell_of g c =
    let f = c.args.frame in
    record { there = in_front c.args.cells.now c.samples.result.count (path_of f.bytes.now).header.samples _ c.loop-at.at c.samples.ensures (samples_counted f.bytes.now f.sound) c.requires c.loop-at-test.true }

pub loop-at-preserved : goal.loop-at-preserved
loop-at-preserved g c =
    let f = c.args.frame in
    let p = path_of f.bytes.now in
    let given = g.G.FromSample.given p.header.lateral in
    let l = in_front c.args.cells.now c.samples.result.count p.header.samples (length p.samples) c.loop-at.at c.samples.ensures (samples_counted f.bytes.now f.sound) c.requires c.loop-at-test.true in
    filled_more g.G.Grade.rank c.loop-at.front (map given p.samples) c.loop-at.at c.cell_of.result (omega arith) (omega (arith, length-map p.samples given)) c.loop-at.invariant
    (c.cell_of.ensures ∙ sym (get_or-map given p.samples c.loop-at.at no_sample_of no_cell l))

pub returns : goal.returns
returns g c =
    let p = path_of c.args.frame.bytes.now in
    let given = g.G.FromSample.given p.header.lateral in
    let n = samples_counted c.args.frame.bytes.now c.args.frame.sound in
    filled g.G.Grade.rank (map given p.samples) c.args.cells.now c.loop-at.front c.samples.result.count c.loop-at.at (omega (arith, c.samples.ensures, c.requires)) (omega (arith, c.samples.ensures, length-map p.samples given))
    c.loop-at.auto.front c.loop-at-test.false c.loop-at.invariant
