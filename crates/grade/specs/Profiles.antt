-- Profiles over ranks. A profile gives each sample of a path, counted from 0, a grade of one make; definitions read it as the
-- list of their ranks, so that each serves every make.
use Rattle.std.specs.Prelude.{ℕ, ◌<◌, ◌≤◌, List, length, slice_index}

abbrev pub Profile : Type 0
Profile = List ℕ

-- the rank at a sample
abbrev pub rank : Profile → ℕ → ℕ
rank p i = slice_index p i

-- no rank is above the top
abbrev pub Within : ℕ → Profile → Type 0
Within top p = (i : ℕ) → i < length p → rank p i ≤ top

-- the first is at most the second at every sample
abbrev pub AtMost : Profile → Profile → Type 0
AtMost p q = (i : ℕ) → i < length p → rank p i ≤ rank q i
