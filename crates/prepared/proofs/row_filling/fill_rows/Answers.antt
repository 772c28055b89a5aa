use Rattle.std.proofs.Common.{ap, sym, ◌≡◌, ◌∙◌, subst, arith}
use Rattle.torque.specs.Rows.{no_row, row_at, Sound}
use Rattle.frame.specs.declared.header.Header.{Header}
use Rattle.frame.specs.Views.{path_of}
use Rattle.sources.specs.Soundness.{nth-slice_index_or}
use Rattle.sources.proofs.Counted.{rows_counted}
use Rattle.prepared.specs.Lists.{bounds_of_row, row_bounds_of}
use Rattle.prepared.proofs.Fills.{filled_more, filled, in_front}
use Rattle.prepared.proofs.Known.{row_sound, rows_long}
use Rattle.prepared.proofs.Listed.{row_bounds_at}
use Rattle.prepared.proofs.row_filling.fill_rows.Goals as goal

pub row_bounds-requires : goal.row_bounds-requires
row_bounds-requires c =
    let frame = c.args.frame in
    let count = ap (λ (h : Header). h.rows) c.header-header.ensures in
    let l = in_front c.args.rows.now c.header-header.result.rows c.loop-at.at (omega (arith, count, c.requires)) c.loop-at-test.true in
    subst (λ (h : Header). Sound h.spacing c.known_row.result) (sym c.header-header.ensures)
    (row_sound frame.bytes.now frame.sound c.loop-at.at c.known_row.result c.known_row.ensures (omega (arith, count)))

pub loop-at-preserved : goal.loop-at-preserved
loop-at-preserved c =
    let frame = c.args.frame in
    let p = path_of frame.bytes.now in
    let count = ap (λ (h : Header). h.rows) c.header-header.ensures in
    let l = in_front c.args.rows.now c.header-header.result.rows c.loop-at.at (omega (arith, count, c.requires)) c.loop-at-test.true in
    let m = rows_long frame.bytes.now frame.sound in
    let there : row_at p.rows c.loop-at.at ≡ c.known_row.result = nth-slice_index_or p.rows c.loop-at.at c.known_row.result no_row (sym c.known_row.ensures) in
    filled_more (row_bounds_of p) c.loop-at.front c.loop-at.at c.row_bounds.result c.row_bounds.result (omega arith) (omega (arith, count, m)) c.loop-at.invariant
    (c.row_bounds.ensures
    ∙ ap (λ (h : Header). bounds_of_row h.spacing c.known_row.result) c.header-header.ensures
    ∙ ap (bounds_of_row p.header.spacing) (sym there)
    ∙ sym (row_bounds_at p c.loop-at.at c.row_bounds.result (omega (arith, count, rows_counted frame.bytes.now frame.sound))))

pub returns : goal.returns
returns c =
    let frame = c.args.frame in
    let count = ap (λ (h : Header). h.rows) c.header-header.ensures in
    filled (row_bounds_of (path_of frame.bytes.now)) c.args.rows.now c.loop-at.at c.loop-at.front c.header-header.result.rows (omega (arith, count, c.requires))
    (omega (arith, count, rows_long frame.bytes.now frame.sound)) c.loop-at.auto.front c.loop-at-test.false c.loop-at.invariant
