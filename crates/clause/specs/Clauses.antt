-- Cap clauses: what their numbers must be, the clause that they stand for, and the cap that it gives.
use Rattle.std.specs.Prelude.{◌≡◌, ℕ, min, Bool, cond, not, Ok, Result, ◌==◌, from_bits, nat_le, nat_lt, Float}
use Rattle.std.specs.Float.{binary32}
use Rattle.caps.specs.Floats.{bits_of, finite_bits, significand, shift}
use Rattle.caps.specs.Caps.{SpeedCap, BendCap}
use Rattle.clause.specs.declared.clause.ClauseWords.{ClauseWords}
use Rattle.clause.specs.declared.clause.CapClause.{CapClause}
use Rattle.clause.specs.declared.clause.CapClause.TheVariants.{Free, Straight, Bend, Fixed}
use Rattle.clause.specs.declared.clause.ClauseFault.{ClauseFault}
use Rattle.clause.specs.declared.clause.ClauseFault.TheVariants.{TopSpeedNotFinite, TopSpeedNegative, CurvatureNotFinite, FixedTooGreat, FirstNotZero, SecondNotZero}
use Rattle.clause.specs.Asking.{ask, within}

-- ---- reading

-- is the number of a pattern below zero? minus zero, the pattern 2 ^ 31, is not
abbrev pub negative_bits : ℕ → Bool
negative_bits b = nat_lt 2147483648 b

abbrev pub speed_read : ℕ → Result Float ClauseFault
speed_read b = ask (finite_bits b) TopSpeedNotFinite (ask (not (negative_bits b)) TopSpeedNegative (Ok (from_bits binary32 b)))

abbrev pub bend : Float → Float → CapClause
bend v k = Bend (record { top_speed = v; curvature = k })

-- the clause of a kind from 0 to 3, its numbers asked in their order
abbrev pub clause_read : ClauseWords → Result CapClause ClauseFault
clause_read w =
    cond (w.kind == 0) (ask (w.first == 0) FirstNotZero (ask (w.second == 0) SecondNotZero (Ok Free)))
    (cond (w.kind == 1) (within (λ f. f) (speed_read w.first) (λ v. ask (w.second == 0) SecondNotZero (Ok (Straight v))))
    (cond (w.kind == 2) (within (λ f. f) (speed_read w.first) (λ v. ask (finite_bits w.second) CurvatureNotFinite (Ok (bend v (from_bits binary32 w.second)))))
    (ask (nat_le w.first 2147483647) FixedTooGreat (ask (w.second == 0) SecondNotZero (Ok (Fixed w.first))))))

-- ---- writing

abbrev pub clause_words : CapClause → ClauseWords
clause_words Free = record { kind = 0; first = 0; second = 0 }
clause_words (Straight v) = record { kind = 1; first = bits_of v; second = 0 }
clause_words (Bend b) = record { kind = 2; first = bits_of b.top_speed; second = bits_of b.curvature }
clause_words (Fixed n) = record { kind = 3; first = n; second = 0 }

-- a clause that some words stand for
abbrev pub Legal : CapClause → Type 0
Legal c = clause_read (clause_words c) ≡ Ok c

-- ---- the cap

-- w is the cap that a clause gives at the lateral number a
abbrev pub ClauseCap : CapClause → (a w : ℕ) → Type 0
ClauseCap Free a w = w ≡ 2147483647
ClauseCap (Straight v) a w = SpeedCap (bits_of v) w
ClauseCap (Bend b) a w =
    (u : ℕ) × (k : ℕ) × (SpeedCap (bits_of b.top_speed) u) × (BendCap (significand (bits_of b.curvature)) (shift (bits_of b.curvature)) a k) × (w ≡ min u k)
ClauseCap (Fixed n) a w = w ≡ n
