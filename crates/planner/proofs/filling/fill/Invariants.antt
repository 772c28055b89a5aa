use Rattle.std.proofs.Common.{◌≡◌, map, take}
use Rattle.grade.specs.Ranks.{ranked_all}
use Rattle.frame.specs.Views.{path_of}
use Rattle.planner.proofs.filling.fill.Given as goal

-- so many cells are filled
abbrev pub invariant-loop-at : goal.invariant-loop-at
invariant-loop-at g l =
    let p = path_of l.frame.bytes.now in
    ranked_all g.G.Grade.rank (take l.at l.front) ≡ take l.at (map (g.G.FromSample.given p.header.lateral) p.samples)
