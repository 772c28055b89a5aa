-- What is asked of a bound's number, and the first bound at which the answer is yes.
use Rattle.std.specs.Prelude.{ℕ, Bool, true, false, cond, List, [], ◌∷◌, ℤ, pos, negsuc, Some, None, Option, ◌==◌, nat_lt}
use Rattle.std.specs.Option.{option_or}
use Rattle.binding.specs.declared.bound.Bound.{Bound}
use Rattle.binding.specs.declared.bound.Found.{Found}
use Rattle.binding.specs.declared.question.Question.{Question}
use Rattle.binding.specs.declared.question.Question.TheVariants.{Reaches, FallsShort}

-- is the number the value? is it below the floor?
abbrev pub says : Question → ℤ → Bool
says (Reaches value) (pos n) = n == value
says (Reaches value) (negsuc n) = false
says (FallsShort floor) (pos n) = nat_lt n floor
says (FallsShort floor) (negsuc n) = true

-- the rank that a number is
abbrev pub most_of : ℤ → Option ℕ
most_of (pos n) = Some n
most_of (negsuc n) = None

-- a bound with its number, where the answer is yes
abbrev pub judged : Question → Bound → ℤ → Option Found
judged q b z = cond (says q z) (Some (record { bound = b; most = most_of z })) None

-- the first of the bounds, with numbers f, at which the answer is yes
abbrev pub first : Question → (Bound → ℤ) → List Bound → Option Found
first q f [] = None
first q f (b ∷ bs) = option_or (judged q b (f b)) (first q f bs)
