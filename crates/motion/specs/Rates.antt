-- Rows that bound how fast the rise of a profile may grow: w(i + 1) + w(i − 1) − 2 × w(i) ≤ q at every inner sample.
-- They are no limit: raising a neighbour can lower what they allow.
use Rattle.std.specs.Prelude.{ℕ, ◌+◌, ◌-◌, ◌*◌, ◌<◌, ◌≤◌, [], ◌∷◌, length, pos, ◌-ℤ◌, ◌<ℤ◌}
use Rattle.grade.specs.Profiles.{Profile, rank, AtMost}
use Rattle.grade.specs.Tops.{speed_top}
use Rattle.limit.specs.Numbers.{Number, Rule, KeptExactly}
use Rattle.motion.specs.Floors.{floored}

abbrev pub WithinRate : ℕ → Profile → Type 0
WithinRate q p = (i : ℕ) → 0 < i → i + 1 < length p → rank p (i + 1) + rank p (i - 1) ≤ q + 2 * rank p i

-- what such a row would allow at sample i, after the inner sample i − 1: the greatest g with g ≤ q + 2 × w(i − 1) − w(i − 2)
abbrev pub rate : ℕ → Number
rate q p i = floored 1 (pos (q + 2 * rank p (i - 1)) -ℤ pos (rank p (i - 2)))

-- two profiles, the first at most the second
abbrev pub level : Profile
level = 0 ∷ 0 ∷ 0 ∷ []

abbrev pub raised : Profile
raised = 1 ∷ 0 ∷ 0 ∷ []

-- at them the row allows less under the second
abbrev pub RateFalls : Type 0
RateFalls = AtMost level raised × ((q : ℕ) → q ≤ speed_top → rate q raised 2 <ℤ rate q level 2)

-- so it breaks the rule
abbrev pub RateBreaksRule : Type 0
RateBreaksRule = (q : ℕ) → q ≤ speed_top → Rule speed_top (rate q) → ⊥

-- and no number that has the rule is kept by just the profiles that such rows let through
abbrev pub RateIsNoLimit : Type 0
RateIsNoLimit = (q : ℕ) → q + 2 ≤ speed_top → (number : Number) → Rule speed_top number → KeptExactly speed_top number (WithinRate q) → ⊥
