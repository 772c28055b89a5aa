-- What a job works under, the same throughout: how many samples, the top and the limit of each make, and the class table.
use Rattle.std.specs.Prelude.{ℕ, ◌<◌, ◌≤◌}
use Rattle.runs.specs.declared.stage.Make.{Make}
use Rattle.runs.specs.declared.stage.Make.TheVariants.{Classes}
use Rattle.limit.specs.Numbers.{Number, LimitLaw}

pub record Setting : Type 0 where
  pub samples : ℕ
  pub top : Make → ℕ
  pub number : Make → Number
  -- the greatest squared speed that a class grants
  pub table : ℕ → ℕ

-- there are samples, both limits are lawful, and a higher class grants no less speed
pub record SettingLaw (σ : Setting) : Type 0 where
  pub sampled : 0 < σ.samples
  pub limits : (m : Make) → LimitLaw (σ.top m) (σ.number m)
  pub rises : (a b : ℕ) → a ≤ b → b ≤ σ.top Classes → σ.table a ≤ σ.table b
