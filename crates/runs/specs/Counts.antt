-- Counts of samples that a job may have.
use Rattle.std.specs.Prelude.{ℕ, cond, Ok, Err, Result, nat_le}
use Rattle.runs.specs.declared.call.Fault.{Fault}
use Rattle.runs.specs.declared.call.Fault.TheVariants.{BadCount}
use Rattle.runs.specs.declared.samples.Samples.{Samples}

-- a number of samples is a count from 2 to 4096
abbrev pub sampled : ℕ → Result ℕ Fault
sampled k = cond (nat_le 2 k) (cond (nat_le k 4096) (Ok k) (Err BadCount)) (Err BadCount)

-- the number that a count holds
abbrev pub counted : Result Samples Fault → Result ℕ Fault
counted (Ok s) = Ok s.count
counted (Err f) = Err f
