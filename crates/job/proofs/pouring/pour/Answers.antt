use Rattle.std.proofs.Common.{◌≡◌, ◌<◌, min, length, get_or, sym, ap, ◌∙◌, arith}
use Rattle.std.proofs.lemmas.List.{set-get_or}
use Rattle.grade.specs.Ranks.{class_rank, speed_rank, ranked}
use Rattle.runs.specs.Sheets.{cell, with_value}
use Rattle.runs.specs.Jobs.{job, fresh}
use Rattle.runs.specs.declared.stage.Stage.TheVariants.{Impossible}
use Rattle.sweep.proofs.Reading.{cell_ranked, changed}
use Rattle.job.specs.Table.{entry}
use Rattle.job.specs.Whole.{sheets_of}
use Rattle.job.proofs.Pours.{pours_stop, pours_more, pours_end}
use Rattle.job.proofs.pouring.pour.Goals as goal

pub returns-then-rank : goal.returns-then-rank
returns-then-rank c =
    let i = c.loop-at.at in
    let S = sheets_of c.args.classes.now c.loop-at.speeds in
    let class = cell_ranked class_rank c.args.classes.now i c.index-classes-at.result (omega arith) in
    let speed = cell_ranked speed_rank c.loop-at.speeds i c.index-speeds-at.result (omega arith) in
    ap (λ l. job (Impossible i) fresh (sheets_of c.args.classes.now l)) (set-get_or c.loop-at.speeds i c.index-speeds-at.result)
    ∙ sym (pours_stop entry (length c.args.speeds.now) i S c.loop-at-test.true (omega (arith, ap (λ x. entry x.value) class, ap (λ x. x.floor) speed))) ∙ c.loop-at.invariant

pub loop-at-preserved : goal.loop-at-preserved
loop-at-preserved c =
    let i = c.loop-at.at in
    let S = sheets_of c.args.classes.now c.loop-at.speeds in
    let h : i < length c.loop-at.speeds = omega arith in
    let class = ap (λ x. entry x.value) (cell_ranked class_rank c.args.classes.now i c.index-classes-at.result (omega arith)) in
    let old = c.index-speeds-at.result in
    let speed = cell_ranked speed_rank c.loop-at.speeds i old h in
    let floor = ap (λ x. x.floor) speed in
    let value = ap (λ x. x.value) speed in
    let entry_of = entry (cell S.classes i).value in
    let lowered : speed_rank c.lower-speed.result ≡ min (cell S.speeds i).value entry_of = omega arith in
    sym (pours_more entry (length c.args.speeds.now) i S _ c.loop-at-test.true (omega arith)
    (changed speed_rank c.loop-at.speeds i old _ (with_value (min (cell S.speeds i).value entry_of)) h (ap (λ v. with_value v (ranked speed_rank (get_or c.loop-at.speeds i old))) lowered)))
    ∙ c.loop-at.invariant

pub returns : goal.returns
returns c =
    sym (pours_end entry (length c.args.speeds.now) c.loop-at.at (sheets_of c.args.classes.now c.loop-at.speeds) (omega arith)) ∙ c.loop-at.invariant
