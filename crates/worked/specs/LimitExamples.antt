-- What limits allow in small cases, as one statement.
use Rattle.std.specs.Prelude.{◌≡◌, List, [], ◌∷◌, ℤ, pos, negsuc}
use Rattle.grade.specs.Tops.{class_top}
use Rattle.torque.specs.declared.row.Row.{Row}
use Rattle.motion.specs.declared.steps.Step.{Step}
use Rattle.motion.specs.Averages.{average}
use Rattle.motion.specs.Ramps.{ramp}
use Rattle.motion.specs.Torques.{torque}

-- offsets of three samples, of which the inner one has q
abbrev pub inner : ℤ → List ℤ
inner q = pos 0 ∷ q ∷ pos 0 ∷ []

-- one row at gap 0, with d = 3, c = 1, g = 1, lo = −3, hi = 4
abbrev pub positive : List Row
positive = record { gap = 0; d = pos 3; c = pos 1; g = pos 1; lo = negsuc 2; hi = pos 4 } ∷ []

-- the same with d and c negative
abbrev pub negative : List Row
negative = record { gap = 0; d = negsuc 2; c = negsuc 0; g = pos 1; lo = negsuc 2; hi = pos 4 } ∷ []

-- two gaps over which a profile may rise by 1 and fall by 5
abbrev pub steps : List Step
steps = record { up = 1; down = 5 } ∷ record { up = 1; down = 5 } ∷ []

pub record LimitExamples : Type 0 where
  -- the average of 3 and 4 with q = 0 is 3, and of 0 and 0 with q = −1 nothing fits
  pub between : average (inner (pos 0)) (3 ∷ 9 ∷ 4 ∷ []) 1 ≡ pos 3
  pub nothing : average (inner (negsuc 0)) (0 ∷ 0 ∷ 0 ∷ []) 1 ≡ negsuc 0
  -- at spacing 1, 10 before the gap bounds the sample after it by 5, and 2 after the gap bounds the sample before it by 14
  pub next : torque 1 positive (10 ∷ 99 ∷ []) 1 ≡ pos 5
  pub last : torque 1 positive (99 ∷ 2 ∷ []) 0 ≡ pos 14
  -- with d negative the other room counts on each side
  pub next_negative : torque 1 negative (10 ∷ 99 ∷ []) 1 ≡ pos 6
  pub last_negative : torque 1 negative (99 ∷ 2 ∷ []) 0 ≡ pos 12
  -- a ramp takes the smaller of the two sides, and outside the profile the top
  pub ramped : ramp class_top steps (0 ∷ 7 ∷ 7 ∷ []) 1 ≡ pos 1
  pub outside : ramp class_top steps (0 ∷ 7 ∷ 7 ∷ []) 3 ≡ pos class_top
