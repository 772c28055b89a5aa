use Rattle.std.proofs.Common.{◌≡◌, replicate}
use Rattle.grade.specs.Ranks.{ranked_all}
use Rattle.console.specs.Lending.{lowest_cell}
use Rattle.console.proofs.lending.cells.Given as goal

abbrev pub invariant-loop : goal.invariant-loop
invariant-loop g l = ranked_all g.G.Grade.rank l.cells.items ≡ replicate l.counter lowest_cell
