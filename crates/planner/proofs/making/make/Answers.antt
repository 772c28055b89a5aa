use Rattle.std.proofs.Common.{ℕ, List, subst}
use Rattle.planner.specs.Making.{MadeFrom}
use Rattle.planner.proofs.making.make.Goals as goal

pub returns : goal.returns
returns c =
    subst (λ (x : List ℕ). MadeFrom x c.args.classes.now c.make_accepted.new.classes c.args.speeds.now c.make_accepted.new.speeds c.make_accepted.result)
    c.over.ensures c.make_accepted.ensures
