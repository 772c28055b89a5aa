-- What clauses cap in small cases, as one statement.
use Rattle.std.specs.Prelude.{◌≡◌, ℕ, ◌*◌, ◌^◌, Ok, Result}
use Rattle.caps.specs.Floats.{significand, shift}
use Rattle.clause.specs.declared.clause.ClauseWords.{ClauseWords}
use Rattle.clause.specs.declared.clause.ClauseFault.{ClauseFault}
use Rattle.clause.specs.Asking.{within}
use Rattle.clause.specs.Clauses.{clause_read}
use Rattle.planner.specs.Starts.{clause_cap}

-- the number of the pattern b is n / d
abbrev pub Means : (b n d : ℕ) → Type 0
Means b n d = significand b * 2 ^ shift b * d ≡ n * 2 ^ 149

-- a straight with the top speed of a pattern
abbrev pub straight : ℕ → ClauseWords
straight v = record { kind = 1; first = v; second = 0 }

-- a bend with the top speed and the curvature of two patterns
abbrev pub bend : ℕ → ℕ → ClauseWords
bend v k = record { kind = 2; first = v; second = k }

-- the cap, at the lateral number a, of the clause that words stand for
abbrev pub cap_read : ℕ → ClauseWords → Result ℕ ClauseFault
cap_read a w = within (λ f. f) (clause_read w) (λ c. Ok (clause_cap a c))

pub record CapExamples : Type 0 where
  -- the top speed 0.25 caps at 4096
  pub quarter_is : Means 0x3E80_0000 1 4
  pub quarter : (a : ℕ) → cap_read a (straight 0x3E80_0000) ≡ Ok 4096
  -- the number nearest to 0.1 caps at 655
  pub tenth_is : Means 0x3DCC_CCCD 13421773 (2 ^ 27)
  pub tenth : (a : ℕ) → cap_read a (straight 0x3DCC_CCCD) ≡ Ok 655
  -- 181 is the last whole top speed with a cap below the greatest squared speed
  pub slower_is : Means 0x4335_0000 181 1
  pub slower : (a : ℕ) → cap_read a (straight 0x4335_0000) ≡ Ok 2147024896
  pub faster_is : Means 0x4336_0000 182 1
  pub faster : (a : ℕ) → cap_read a (straight 0x4336_0000) ≡ Ok 2147483647
  -- a bend with the top speed 1 and the curvature 3 caps at 43690 where the lateral number is 131072
  pub one_is : Means 0x3F80_0000 1 1
  pub three_is : Means 0x4040_0000 3 1
  pub bent : cap_read 131072 (bend 0x3F80_0000 0x4040_0000) ≡ Ok 43690
