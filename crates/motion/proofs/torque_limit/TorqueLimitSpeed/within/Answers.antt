use Rattle.std.proofs.Common.{◌≡◌, ◌+◌, ◌-◌, ◌*◌, ◌<◌, length, drop, pos, ◌+ℤ◌, ap, sym, ◌∙◌, arith, to_z, w64, SFits}
use Rattle.std.specs.Int.{int_min}
use Rattle.std.proofs.lemmas.Int.{ints, clamps, to_z-of_z}
use Rattle.std.proofs.lemmas.List.{length-map}
use Rattle.grade.specs.declared.cell.Cell.{Cell}
use Rattle.grade.specs.declared.speed.Speed.{Speed}
use Rattle.grade.specs.Ranks.{ranks, speed_rank}
use Rattle.grade.specs.Tops.{speed_top}
use Rattle.limit.specs.Numbers.{clamped}
use Rattle.motion.specs.Torques.{allows, least, torque}
use Rattle.motion.specs.FloorsLemmas.{floored_low}
use Rattle.motion.proofs.Scanning.{in_order, rest_left, rest_right, rest_next_right, rest_next_left}
use Rattle.motion.proofs.torque_limit.TorqueLimitSpeed.within.Goals as goal

pub loop-k-init : goal.loop-k-init
loop-k-init g c =
    let f = c.ranges.most in
    let left = c.first-left.ensures in
    simp to_z-of_z (
      c.requires.least,
      c.requires.top,
      ap (int_min (clamped c.args.most))
          (rest_left (g.R.Rows.sound c.args.self.now.rows) (ranks speed_rank c.args.cells.now) c.args.at c.first-left.result (omega arith) (left.within, left.before, left.found)),
    )

pub within-number-requires-clause-fits : goal.within-number-requires-clause-fits
within-number-requires-clause-fits g c = c.on_right.ensures.fits

pub within-number-requires-clause-least : goal.within-number-requires-clause-least
within-number-requires-clause-least g c = c.loop-k.invariant.0

pub within-number-requires-clause-top : goal.within-number-requires-clause-top
within-number-requires-clause-top g c = c.loop-k.invariant.1

pub loop-k-preserved : goal.loop-k-preserved
loop-k-preserved g c =
    let inv = c.loop-k.invariant in
    let here = c.first-here.ensures in
    let left = c.first-left.ensures in
    let many = length-map c.args.cells.now (λ (x : Cell Speed). speed_rank x.value) in
    let within = c.within-number.ensures in
    let low = floored_low c.on_right.result.own (pos (c.on_right.result.near * speed_rank c.value-before.result) +ℤ c.on_right.result.constant) in
    let l : c.loop-k.k < length (g.R.Rows.rows c.args.self.now.rows) = omega arith in
    let f : SFits w64 c.within-number.result = omega (arith, ints, c.within-number.type_inv) in
    let fm = c.ranges.most in
    simp to_z-of_z (
      within.least,
      omega (arith, ints, clamps),
      rest_next_right (g.R.Rows.sound c.args.self.now.rows) (ranks speed_rank c.args.cells.now) c.args.at c.loop-k.k l c.first-left.result c.first-here.result c.requires.after_first (omega (arith, many))
          (left.within, left.before, left.found) (here.within, here.before, here.found) c.loop-k.auto.k c.loop-k-test.true _ _ _ c.on_right.result (speed_rank c.value-before.result)
          (simp to_z-of_z at inv.2) c.on_right.ensures.is c.value-before.ensures within.lesser,
    )

pub loop-k-2-init : goal.loop-k-2-init
loop-k-2-init g c =
    let inv = c.loop-k.invariant in
    let here = c.first-here.ensures in
    let left = c.first-left.ensures in
    let sound = g.R.Rows.sound c.args.self.now.rows in
    let p = ranks speed_rank c.args.cells.now in
    let ordered = in_order sound p c.args.at (c.args.at - 1) c.args.at c.first-left.result c.first-here.result (omega arith)
    (left.within, left.before, left.found) (here.within, here.before, here.found) in
    let end = c.loop-k.auto.k-end ordered in
    let k : c.loop-k.k ≡ c.first-here.result = omega (arith, c.loop-k-test.false) in
    rw (sym k) inv

pub within-number-requires-in-loop-k-2-clause-fits : goal.within-number-requires-in-loop-k-2-clause-fits
within-number-requires-in-loop-k-2-clause-fits g c = c.on_left.ensures.fits

pub within-number-requires-in-loop-k-2-clause-least : goal.within-number-requires-in-loop-k-2-clause-least
within-number-requires-in-loop-k-2-clause-least g c = c.loop-k-2.invariant.0

pub within-number-requires-in-loop-k-2-clause-top : goal.within-number-requires-in-loop-k-2-clause-top
within-number-requires-in-loop-k-2-clause-top g c = c.loop-k-2.invariant.1

pub loop-k-2-preserved : goal.loop-k-2-preserved
loop-k-2-preserved g c =
    let inv = c.loop-k-2.invariant in
    let here = c.first-here.ensures in
    let past = c.first-past.ensures in
    let many = length-map c.args.cells.now (λ (x : Cell Speed). speed_rank x.value) in
    let within = c.within-number-in-loop-k-2.ensures in
    let low = floored_low c.on_left.result.own (pos (c.on_left.result.near * speed_rank c.value-after.result) +ℤ c.on_left.result.constant) in
    let l : c.loop-k-2.k < length (g.R.Rows.rows c.args.self.now.rows) = omega arith in
    let f : SFits w64 c.within-number-in-loop-k-2.result = omega (arith, ints, c.within-number-in-loop-k-2.type_inv) in
    let fm = c.ranges.most in
    simp to_z-of_z (
      within.least,
      omega (arith, ints, clamps),
      rest_next_left (g.R.Rows.sound c.args.self.now.rows) (ranks speed_rank c.args.cells.now) c.args.at c.loop-k-2.k l c.first-here.result c.first-past.result (omega (arith, many))
          (here.within, here.before, here.found) (past.within, past.before, past.found) c.loop-k-2.auto.k c.loop-k-2-test.true _ _ _ c.on_left.result (speed_rank c.value-after.result)
          (simp to_z-of_z at inv.2) c.on_left.ensures.is c.value-after.ensures within.lesser,
    )

pub returns : goal.returns
returns g c =
    let inv = c.loop-k-2.invariant in
    let here = c.first-here.ensures in
    let past = c.first-past.ensures in
    let sound = g.R.Rows.sound c.args.self.now.rows in
    let p = ranks speed_rank c.args.cells.now in
    let ordered = in_order sound p c.args.at c.args.at (c.args.at + 1) c.first-here.result c.first-past.result (omega arith)
    (here.within, here.before, here.found) (past.within, past.before, past.found) in
    let end = c.loop-k-2.auto.k-end ordered in
    let k : c.loop-k-2.k ≡ c.first-past.result = omega (arith, c.loop-k-2-test.false) in
    let h = g.R.Rows.spacing c.args.self.now.rows in
    let rows = g.R.Rows.rows c.args.self.now.rows in
    let none : least (allows h p c.args.at) (drop c.loop-k-2.k rows) ≡ pos speed_top = rw k (rest_right sound p c.args.at c.first-past.result (past.within, past.before, past.found)) in
    let fm = c.ranges.most in
    let all : int_min (clamped (to_z w64 c.loop-k-2.number-bits)) (least (allows h p c.args.at) (drop c.loop-k-2.k rows)) ≡ int_min (clamped c.args.most) (torque h rows p c.args.at) = simp to_z-of_z at inv.2 in
    let number : clamped (to_z w64 c.loop-k-2.number-bits) ≡ int_min (clamped (to_z w64 c.loop-k-2.number-bits)) (least (allows h p c.args.at) (drop c.loop-k-2.k rows)) = omega (arith, ints, clamps, none, inv.1) in
    record { lesser = number ∙ all; least = inv.0 }
