use Rattle.std.proofs.Common.{sym, ◌∙◌}
use Rattle.planner.proofs.Bounds.{sample_read_lem}
use Rattle.planner.proofs.place.SamplePlace.sample.Goals as goal

pub returns : goal.returns
returns c =
    let p = c.args.self in
    let r = sample_read_lem p.frame.bytes.now p.frame.sound p.at p.there c.unwrap.result (sym c.unwrap.ensures ∙ c.sample.ensures) in
    record { is = r.0; within = r.1 }
