-- The greatest squared speed that a factor leaves room for.
use Rattle.std.specs.Prelude.{ℕ, ◌/◌, min, ℤ, pos, negsuc}
use Rattle.grade.specs.Tops.{speed_top}

-- the greatest g up to the top with factor × g ≤ n, and −1 where n is negative
abbrev pub floored : ℕ → ℤ → ℤ
floored factor (pos n) = pos (min (n / factor) speed_top)
floored factor (negsuc n) = negsuc 0
