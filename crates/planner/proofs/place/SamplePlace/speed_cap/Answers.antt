use Rattle.std.proofs.Common.{subst, ◌∙◌}
use Rattle.frame.specs.Views.{path_of, CapShown}
use Rattle.planner.proofs.Bounds.{cap_read}
use Rattle.planner.proofs.place.SamplePlace.speed_cap.Goals as goal

pub of_rank-requires : goal.of_rank-requires
of_rank-requires c =
    let p = c.args.self in
    (cap_read p.frame.bytes.now p.frame.sound p.at p.there c.unwrap.result (subst (CapShown (path_of p.frame.bytes.now) p.at) c.unwrap.ensures c.speed_cap.ensures)).1

pub returns : goal.returns
returns c =
    let p = c.args.self in
    c.of_rank.ensures ∙ (cap_read p.frame.bytes.now p.frame.sound p.at p.there c.unwrap.result (subst (CapShown (path_of p.frame.bytes.now) p.at) c.unwrap.ensures c.speed_cap.ensures)).0
