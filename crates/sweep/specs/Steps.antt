-- A step of a sweep over a sheet, whatever its make.
use Rattle.std.specs.Prelude.{◌≡◌, ℕ, List, length}
use Rattle.grade.specs.declared.cell.Cell.{Cell}
use Rattle.grade.specs.Ranks.{ranked_all}
use Rattle.limit.specs.Numbers.{Number}
use Rattle.runs.specs.declared.stage.Sweep.{Sweep}
use Rattle.runs.specs.Jobs.{upcoming}
use Rattle.sweep.specs.declared.step.Step.{Step}
use Rattle.sweep.specs.Outcomes.{outcome_from, Going}
use Rattle.sweep.specs.Visits.{found_at, lowered}

-- the cells before and after a step of the sweep w under the limit of this number, and what it says
pub record Stepped {G : Type 0} (rank : G → ℕ) (number : Number) (w : Sweep) (old new : List (Cell G)) (r : Step) : Type 0 where
  pub at : r.at ≡ upcoming (length old) w
  pub finding : r.finding ≡ found_at rank number old r.at
  pub outcome : r.outcome ≡ outcome_from (length old) (found_at rank number old r.at) w
  pub sheet : ranked_all rank new ≡ lowered (found_at rank number old r.at) r.at (ranked_all rank old)
  pub going : Going (length old) r.outcome
