use Rattle.std.proofs.Common.{rules, ◌≡◌, Some, None, Option, ap, ◌∙◌}
use Rattle.std.specs.Option.{MatchOption, IsSomeAnd}
use Rattle.binding.specs.declared.bound.Bound.{Bound}
use Rattle.binding.specs.declared.bound.Found.{Found}
use Rattle.binding.specs.declared.question.Question.TheVariants.{Reaches}
use Rattle.binding.specs.Binding.{bound_in_of}
use Rattle.binding.specs.Bounds.{allowed, bounds_of}
use Rattle.binding.specs.Questions.{first}
use Rattle.binding.proofs.place.binding.Goals as goal

mapped : (o : Option Found) (r : Option Bound) (post : Found → Bound → Type 0) → MatchOption o (r ≡ None) (λ x. IsSomeAnd r (post x)) → ((x : Found) (y : Bound) → post x y → y ≡ x.bound) → r ≡ bound_in_of o
mapped None r post m e = m
mapped (Some x) None post m e = absurd m
mapped (Some x) (Some y) post m e = ap Some (e x y m)

pub returns : goal.returns
returns g c =
    let p = c.args.place in
    mapped c.first.result c.map.result _ c.map.ensures.cases (λ x y m. search rules)
    ∙ ap bound_in_of (c.first.ensures ∙ ap (λ v. first (Reaches v) (allowed (g.P.Place.path p) (g.P.Place.sheets p) g.P.Place.make (g.P.Place.number p)) (bounds_of (g.P.Place.path p) g.P.Place.make)) c.value-value.ensures)
