-- The worked examples, as one statement.
use Rattle.worked.specs.CapExamples.{CapExamples}
use Rattle.worked.specs.LimitExamples.{LimitExamples}
use Rattle.worked.specs.JobExamples.{JobExamples}

pub record Examples : Type 0 where
  pub caps : CapExamples
  pub limits : LimitExamples
  pub job : JobExamples
