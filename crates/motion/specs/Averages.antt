-- What an average allows: twice an inner sample is at most the sum of its neighbours and an offset q.
-- A missing neighbour or q bounds nothing.
use Rattle.std.specs.Prelude.{ℕ, ◌+◌, ◌-◌, ◌*◌, ◌<◌, cond, ◌&&◌, List, length, ℤ, pos, ◌+ℤ◌, ◌≤ℤ◌, nat_lt, slice_index_or}
use Rattle.grade.specs.Profiles.{Profile, rank}
use Rattle.grade.specs.Tops.{speed_top}
use Rattle.motion.specs.Floors.{floored}

-- w(i − 1) + w(i + 1) + q(i)
abbrev pub around : List ℤ → Profile → ℕ → ℤ
around qs p i = pos (rank p (i - 1) + rank p (i + 1)) +ℤ slice_index_or qs i (pos 0)

-- 2 × g ≤ w(i − 1) + w(i + 1) + q(i), where sample i is inner and has a q
abbrev pub WithinAverageAt : List ℤ → Profile → ℕ → ℕ → Type 0
WithinAverageAt qs p i g = 0 < i → i + 1 < length p → i < length qs → pos (2 * g) ≤ℤ around qs p i

-- 2 × w(i) ≤ w(i − 1) + w(i + 1) + q(i) at every inner sample that has a q
abbrev pub WithinAverage : List ℤ → Profile → Type 0
WithinAverage qs p = (i : ℕ) → WithinAverageAt qs p i (rank p i)

abbrev pub average : List ℤ → Profile → ℕ → ℤ
average qs p i = cond (nat_lt 0 i && (nat_lt (i + 1) (length p) && nat_lt i (length qs))) (floored 2 (around qs p i)) (pos speed_top)
