-- The kinds of cap clause and their numbers in a frame.
use Rattle.std.specs.Prelude.{◌≡◌, ℕ, ◌<◌, Result, MatchResult}
use Rattle.clause.specs.declared.kind.ClauseKind.{ClauseKind}
use Rattle.clause.specs.declared.kind.ClauseKind.TheVariants.{Free, Straight, Bend, Fixed}
use Rattle.clause.specs.declared.kind.UnknownKind.{UnknownKind}

abbrev pub number_of : ClauseKind → ℕ
number_of Free = 0
number_of Straight = 1
number_of Bend = 2
number_of Fixed = 3

-- the kind of a number, or the number back where it is no kind's
abbrev pub Decodes : ℕ → Result ClauseKind UnknownKind → Type 0
Decodes number r = MatchResult r (λ kind. number_of kind ≡ number) (λ e. (e.0 ≡ number) × (3 < number))
