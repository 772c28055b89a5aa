-- A finite binary32 number by its pattern: its size is significand × 2 ^ shift × 2 ^ −149.
use Rattle.std.specs.Prelude.{ℕ, ◌+◌, ◌-◌, ◌/◌, ◌%◌, ◌^◌, Bool, cond, ◌==◌, nat_lt, to_bits, Float}
use Rattle.std.specs.Float.{binary32}

-- the pattern of an `f32` that is no NaN
abbrev pub bits_of : Float → ℕ
bits_of v = to_bits binary32 v

-- the exponent field of a pattern, and the fraction field
abbrev pub exponent : ℕ → ℕ
exponent b = b % 2 ^ 31 / 2 ^ 23

abbrev pub fraction : ℕ → ℕ
fraction b = b % 2 ^ 23

abbrev pub significand : ℕ → ℕ
significand b = cond (exponent b == 0) (fraction b) (2 ^ 23 + fraction b)

abbrev pub shift : ℕ → ℕ
shift b = exponent b - 1

-- is it neither an infinity's pattern nor a NaN's?
abbrev pub finite_bits : ℕ → Bool
finite_bits b = nat_lt (b % 2147483648) 2139095040
