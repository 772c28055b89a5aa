use Rattle.std.proofs.Common.{rules, refl, ap, ◌∙◌}
use Rattle.grade.specs.Ranks.{ranks, speed_rank}
use Rattle.limit.specs.Numbers.{number_of}
use Rattle.binding.proofs.Scans.{scan_none, scanned, number_rank}
use Rattle.binding.proofs.rows.first_row.Goals as goal

pub returns-then-is_past : goal.returns-then-is_past
returns-then-is_past g c f is =
    let rows = c.args.limit.now.rows in
    scan_none c.args.question (g.R.Rows.spacing rows) (g.R.Rows.rows rows) (ranks speed_rank c.args.cells.now) c.args.at f is _
    (ap (number_of (λ n. n)) c.rank_of.ensures ∙ number_rank speed_rank c.evaluate-least.result ∙ c.evaluate-least.ensures) (c.is_past.ensures c.if-is_past.true)

pub returns : goal.returns
returns g c f is =
    let rows = c.args.limit.now.rows in
    scanned c.args.question (g.R.Rows.spacing rows) (g.R.Rows.rows rows) (ranks speed_rank c.args.cells.now) c.args.at f is
    _ _ (λ k r d a. search rules) _ refl c.len.ensures c.find_map.result c.find_map.ensures.runs
