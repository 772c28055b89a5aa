use Rattle.std.proofs.Common.{rules}
use Rattle.grade.specs.Ranks.{speed_rank, ranks}
use Rattle.binding.proofs.Firsts.{or_else_is, chained}
use Rattle.binding.proofs.asking.first_in_speeds.Goals as goal

pub returns : goal.returns
returns g c f n =
    let l = c.args.limit.now in
    chained c.args.question (speed_rank c.args.cap) (speed_rank c.args.granted) (g.S.Steps.steps l.first.steps) (g.Q.Offsets.offsets l.second.first.offsets)
    (g.R.Rows.spacing l.second.second.rows) (g.R.Rows.rows l.second.second.rows) (ranks speed_rank c.args.speeds.now) c.args.at f n _
    c.judge.result c.or_else.result c.or_else-2.result c.or_else-3.result c.or_else-4.result c.judge.ensures
    (or_else_is c.judge.result c.or_else.result _ _ c.or_else.ensures (λ m. search rules))
    (or_else_is c.or_else.result c.or_else-2.result _ _ c.or_else-2.ensures (λ m. search rules))
    (or_else_is c.or_else-2.result c.or_else-3.result _ _ c.or_else-3.ensures (λ m. search rules))
    (or_else_is c.or_else-3.result c.or_else-4.result _ _ c.or_else-4.ensures (λ m. search rules))
