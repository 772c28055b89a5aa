-- Limits that read a frame's own bytes are its path's.
use Rattle.std.proofs.Common.{◌≡◌, ℕ, List, subst}
use Rattle.limit.specs.Numbers.{Number}
use Rattle.frame.specs.Paths.{Path}
use Rattle.frame.specs.Views.{path_of}
use Rattle.motion.specs.SpeedLimits.{speed_limit_number}
use Rattle.sources.specs.Sources.{class_number, speed_number, speed_steps, offsets_of, rows_of}

-- the number of a speed limit whose steps, offsets and rows are of three paths
abbrev pub speed_limit_of : (steps offsets rows : Path) → Number
speed_limit_of steps offsets rows = speed_limit_number (speed_steps steps) (offsets_of offsets) rows.header.spacing (rows_of rows)

-- what holds of limits that read equal bytes holds of the path's
module _ (P : Number → Number → Type 0) (bs : List ℕ) where
  pub own_limits : (u x y z : List ℕ) → u ≡ bs → x ≡ bs → y ≡ bs → z ≡ bs
      → P (class_number (path_of u)) (speed_limit_of (path_of x) (path_of y) (path_of z)) → P (class_number (path_of bs)) (speed_number (path_of bs))
  own_limits u x y z u-is x-is y-is z-is p =
      subst (λ (w : List ℕ). P (class_number (path_of bs)) (speed_limit_of (path_of bs) (path_of bs) (path_of w))) z-is
      (subst (λ (w : List ℕ). P (class_number (path_of bs)) (speed_limit_of (path_of bs) (path_of w) (path_of z))) y-is
      (subst (λ (w : List ℕ). P (class_number (path_of bs)) (speed_limit_of (path_of w) (path_of y) (path_of z))) x-is
      (subst (λ (w : List ℕ). P (class_number (path_of w)) (speed_limit_of (path_of x) (path_of y) (path_of z))) u-is p)))
