use Rattle.std.proofs.Common.{rules, arith}
use Rattle.prepared.proofs.Fitting.{right_fits}
use Rattle.prepared.proofs.Reading.{few_rows, rows_many, right_kept}
use Rattle.prepared.proofs.sides.PreparedSides.on_right.Goals as goal

pub offset_bounds-self-at : goal.offset_bounds-self-at
offset_bounds-self-at c = let s = c.args.self.now in omega (arith, c.requires, few_rows s)

pub bounds-self-at : goal.bounds-self-at
bounds-self-at c = let s = c.args.self.now in omega (arith, c.requires, rows_many s)

pub returns : goal.returns
returns c =
    let s = c.args.self.now in
    let is = right_kept s c.args.at _ c.requires (search rules) in
    record { is = is; fits = right_fits s.frame.bytes.now s.frame.sound s.narrow c.args.at c.requires _ is }
