-- What a view of an accepted frame shows.
use Rattle.std.specs.Prelude.{ℕ, zero, suc, List, [], ◌∷◌, ℤ, Some, None, Ok, Err, Option, Result}
use Rattle.record.specs.declared.sample.Sample.{Sample}
use Rattle.clause.specs.Clauses.{ClauseCap}
use Rattle.frame.specs.declared.fault.FrameFault.{FrameFault}
use Rattle.frame.specs.Paths.{Path, header_at, path_read}

-- the path that a frame holds; of a frame that is refused, a path without records
abbrev pub shown : List ℕ → Result Path FrameFault → Path
shown bs (Ok p) = p
shown bs (Err f) = record { header = header_at bs; samples = []; gaps = []; rows = [] }

abbrev pub path_of : List ℕ → Path
path_of bs = shown bs (path_read bs)

-- the element of a number, or nothing past the last
abbrev pub nth : {A : Type 0} → List A → ℕ → Option A
nth [] i = None
nth (x ∷ xs) zero = Some x
nth (x ∷ xs) (suc i) = nth xs i

-- the offset q of a sample's average
abbrev pub offset_in : Option Sample → Option ℤ
offset_in None = None
offset_in (Some s) = Some s.q

-- the cap that a sample's clause gives at the path's lateral number
abbrev pub CapOf : ℕ → Option Sample → Option ℕ → Type 0
CapOf a None None = Unit {0}
CapOf a None (Some w) = ⊥
CapOf a (Some s) None = ⊥
CapOf a (Some s) (Some w) = ClauseCap s.clause a w

abbrev pub CapShown : Path → ℕ → Option ℕ → Type 0
CapShown p i r = CapOf p.header.lateral (nth p.samples i) r
