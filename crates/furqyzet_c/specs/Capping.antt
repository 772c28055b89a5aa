-- The cap of a clause, from its words.
use Rattle.std.specs.Prelude.{◌≡◌, ℕ, cond, ◌&&◌, ℤ, pos, negsuc, Some, None, Option, nat_le}
use Rattle.clause.specs.declared.clause.CapClause.{CapClause}
use Rattle.clause.specs.declared.clause.ClauseWords.{ClauseWords}
use Rattle.clause.specs.Clauses.{clause_read, ClauseCap}
use Rattle.frame.specs.Records.{ok_of}

-- the clause of words, where they and the lateral number a are none that is refused
abbrev pub clause_in : ClauseWords → (a : ℕ) → Option CapClause
clause_in w a = cond (nat_le w.kind 3 && nat_le a 2147483647) (ok_of (clause_read w)) None

-- the cap that such a clause gives at a
abbrev pub CapIn : Option CapClause → ℕ → Option ℕ → Type 0
CapIn None a None = Unit {0}
CapIn None a (Some w) = ⊥
CapIn (Some c) a None = ⊥
CapIn (Some c) a (Some w) = ClauseCap c a w

-- the same as a number, −1 where there is none
abbrev pub Capped : Option CapClause → ℕ → ℤ → Type 0
Capped None a z = z ≡ negsuc 0
Capped (Some c) a z = (w : ℕ) × ClauseCap c a w × (z ≡ pos w)
