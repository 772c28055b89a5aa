use Rattle.std.proofs.Common.{◌≡◌, ◌<◌, ◌≤◌, ◌^◌, length, get_or, ℤ, pos, refl, sym, ap, subst, ◌∙◌, arith, w64, SFits}
use Rattle.std.specs.Int.{int_min}
use Rattle.std.proofs.lemmas.Int.{ints, clamps, to_z-of_z, to_z_pos}
use Rattle.grade.specs.Ranks.{ranked, ranks}
use Rattle.limit.specs.Numbers.{clamped}
use Rattle.runs.specs.Evaluations.{found}
use Rattle.sweep.proofs.Passing.{found_within}
use Rattle.sweep.proofs.Reading.{visits, cell_ranked}
use Rattle.sweep.proofs.visiting.visit_between.Goals as goal

pub returns : goal.returns
returns g c =
    let rank = g.G.Grade.rank in
    let cells = c.args.cells.now in
    let z : ℤ = g.L.Limit.number c.args.limit.now (ranks rank cells) c.args.at in
    let h : c.args.at < length cells = omega arith in
    let written = c.index-cells-at-2.result in
    let cell = ranked rank (get_or cells c.args.at written) in
    let here = cell_ranked rank cells c.args.at written h in
    let most : c.rank-most.result < 2 ^ 63 = omega (arith, c.rank-most.type_inv) in
    let lesser : clamped c.within-allowed.result.number ≡ int_min (clamped (pos c.rank-most.result)) z = simp to_z_pos at c.within-allowed.ensures.lesser in
    let number : clamped c.within-allowed.result.number ≡ int_min (pos c.rank-most.result) z = omega (arith, ints, clamps, lesser) in
    let fits : SFits w64 c.within-allowed.result.number = omega (arith, ints, clamps, number, most, c.within-allowed.ensures.least) in
    let value : c.rank-most.result ≡ cell.value = c.rank-most.ensures ∙ ap (λ x. x.value) (sym (cell_ranked rank cells c.args.at c.index-cells-at.result h) ∙ here) in
    let above : cell.floor ≤ cell.value = subst (λ x. x.floor ≤ x.value) here c.requires.above in
    let finding : c.settle.result ≡ found cell (clamped c.within-allowed.result.number) = simp to_z-of_z at c.settle.ensures.finding in
    visits rank cells c.args.at (g.L.Limit.number c.args.limit.now) written c.settle.new.cell z c.settle.result h refl
    (finding ∙ ap (found cell) (number ∙ ap (λ n. int_min (pos n) z) value) ∙ found_within cell z above)
    c.settle.ensures.cell
