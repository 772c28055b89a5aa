use Rattle.std.proofs.Common.{ℕ, List, [], ◌∷◌, subst}
use Rattle.frame.specs.Views.{path_of}
use Rattle.job.specs.Holding.{Held, held}
use Rattle.job.specs.Calling.{Does, Lawful}
use Rattle.sources.specs.Sources.{class_number}
use Rattle.planner.proofs.calling.call_under.Goals as goal

pub returns : goal.returns
returns g c =
    let h : Held = held c.args.job.now c.args.classes.now c.args.speeds.now in
    let h' : Held = held c.make_call.new.job c.make_call.new.classes c.make_call.new.speeds in
    let b = g.S.Limit.number c.args.speed_limit.now in
    let own = c.class_limit-class_limit.ensures.steps in
    record {
      does = subst (λ (bs : List ℕ). Does (class_number (path_of bs)) b c.args.call h h' c.make_call.result) own c.make_call.ensures.does;
      law = subst (λ (bs : List ℕ). Lawful (class_number (path_of bs)) b (c.args.call ∷ []) h h') own c.make_call.ensures.law;
    }
