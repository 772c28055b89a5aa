use Rattle.std.proofs.Common.{arith}
use Rattle.grade.specs.Ranks.{ranks, speed_rank}
use Rattle.motion.proofs.Scanning.{rest_first, sound_row_lem, rest_more, rest_nothing, rest_past}
use Rattle.motion.proofs.torque_limit.Torque.allowed.Goals as goal

pub loop-k-init : goal.loop-k-init
loop-k-init g c =
    rest_first (g.R.Rows.sound c.args.self.now.rows) (ranks speed_rank c.args.cells.now) c.args.at
    c.first_row-k.result _ c.first_row-k.ensures.within c.first_row-k.ensures.before c.unbounded-least.ensures

pub returns-then-row-at : goal.returns-then-row-at
returns-then-row-at g c =
    rest_past (g.R.Rows.sound c.args.self.now.rows) (ranks speed_rank c.args.cells.now) c.args.at
    c.loop-k.k _ _ (omega arith) c.spacing-h.ensures c.row-row.ensures _ c.loop-k.invariant c.loop-k.least.ok c.if-row-at.true

pub invariant_of-spaced : goal.invariant_of-spaced
invariant_of-spaced g c =
    record {
      sound = sound_row_lem (g.R.Rows.sound c.args.self.now.rows) (ranks speed_rank c.args.cells.now) c.args.at
          c.loop-k.k _ _ (omega arith) c.spacing-h.ensures c.row-row.ensures;
    }

pub returns-in_err-allows : goal.returns-in_err-allows
returns-in_err-allows g c =
    rw c.from_residual.ensures
    (rest_nothing (g.R.Rows.sound c.args.self.now.rows) (ranks speed_rank c.args.cells.now) c.args.at
    c.loop-k.k _ _ (omega arith) c.spacing-h.ensures c.row-row.ensures _ c.loop-k.invariant c.in_err-allows.ensures)

pub loop-k-preserved : goal.loop-k-preserved
loop-k-preserved g c =
    rest_more (g.R.Rows.sound c.args.self.now.rows) (ranks speed_rank c.args.cells.now) c.args.at
    c.loop-k.k _ _ (omega arith) c.spacing-h.ensures c.row-row.ensures _ _ _ c.loop-k.invariant c.in_ok-allows.ensures c.lower-least.ensures
