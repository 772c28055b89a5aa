-- What a ramp allows: each neighbour raised by its step. A missing neighbour or step bounds nothing.
use Rattle.std.specs.Prelude.{ℕ, ◌+◌, ◌-◌, ◌<◌, ◌≤◌, min, cond, ◌&&◌, List, length, ℤ, pos, nat_le, nat_lt, slice_index_or}
use Rattle.std.specs.Int.{int_min}
use Rattle.grade.specs.Profiles.{Profile, rank}
use Rattle.motion.specs.declared.steps.Step.{Step}

abbrev pub no_step : Step
no_step = record { up = 0; down = 0 }

-- ---- what steps say

-- at every gap the next rank is at most the last plus up, and the last at most the next plus down
pub record WithinSteps (steps : List Step) (p : Profile) : Type 0 where
  pub rises : (i : ℕ) → i < length steps → i + 1 < length p → rank p (i + 1) ≤ rank p i + (slice_index_or steps i no_step).up
  pub falls : (i : ℕ) → i < length steps → i + 1 < length p → rank p i ≤ rank p (i + 1) + (slice_index_or steps i no_step).down

-- the same of a rank g at sample i alone, the neighbours as they are
pub record WithinStepsAt (steps : List Step) (p : Profile) (i g : ℕ) : Type 0 where
  pub rises : 0 < i → i < length p → i ≤ length steps → g ≤ rank p (i - 1) + (slice_index_or steps (i - 1) no_step).up
  pub falls : i + 1 < length p → i < length steps → g ≤ rank p (i + 1) + (slice_index_or steps i no_step).down

-- ---- the number

-- the sample before i, raised by up of the gap between
abbrev pub before : ℕ → List Step → Profile → ℕ → ℤ
before top steps p i = cond (nat_lt 0 i && nat_le i (length steps)) (pos (min (rank p (i - 1) + (slice_index_or steps (i - 1) no_step).up) top)) (pos top)

-- the same where sample i is there; a missing sample is bounded by nothing
abbrev pub before_allows : ℕ → List Step → Profile → ℕ → ℤ
before_allows top steps p i = cond (nat_lt i (length p)) (before top steps p i) (pos top)

-- the sample after i, raised by down of the gap between
abbrev pub after : ℕ → List Step → Profile → ℕ → ℤ
after top steps p i = cond (nat_lt i (length steps) && nat_lt (i + 1) (length p)) (pos (min (rank p (i + 1) + (slice_index_or steps i no_step).down) top)) (pos top)

abbrev pub ramp : ℕ → List Step → Profile → ℕ → ℤ
ramp top steps p i = cond (nat_lt i (length p)) (int_min (before top steps p i) (after top steps p i)) (pos top)
