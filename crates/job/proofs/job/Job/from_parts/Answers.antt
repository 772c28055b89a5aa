-- The job of some words is the only one.
use Rattle.std.proofs.Common.{rules, ◌≡◌, ◌<◌, Some, sym, ap, ◌∙◌}
use denote.RattleType.{Denots}
use denote.Struct.Field.{rows}
use denote.Enum.Declared.{intoss}
use Rattle.runs.specs.contracts.stage.Stage as stage
use Rattle.runs.specs.contracts.stage.Direction as direction
use Rattle.runs.specs.declared.samples.Samples.{Samples}
use Rattle.job.specs.declared.job.Job.{Job}
use Rattle.job.specs.declared.parts.Parts.{Parts}
use Rattle.job.specs.contracts.job.Job.{the_type}
use Rattle.job.specs.Parts.{parts_of}
use Rattle.job.proofs.job.Job.from_parts.Goals as goal

-- a job's data, from its words
abbrev data_of : Parts → Denots (rows the_type.parts)
data_of p = (
  (p.samples, tt),
  (
    intoss stage.the_parts (stage.as_values p.stage),
    ((intoss direction.the_parts (direction.as_values p.sweep.direction), (p.sweep.visited, (p.sweep.marked, tt))), tt),
  ),
)

one_job : (j j' : Job) → parts_of j ≡ parts_of j' → j ≡ j'
one_job j j' e = the_type.to_one j j' (ap data_of e)

-- the job that is made of words is the one that has them
made_is : (s : Samples) (p : Parts) (h : p.sweep.visited < s.count) (j : Job) → s.count ≡ p.samples → parts_of j ≡ p
    → Some (record { samples = s; stage = p.stage; sweep = p.sweep; going = h }) ≡ Some j
made_is s p h j n e =
    let mine : Parts = record { samples = s.count; stage = p.stage; sweep = p.sweep } in
    let same : mine ≡ p = ap (λ k. record { samples = k; stage = p.stage; sweep = p.sweep }) n in
    ap Some (one_job (record { samples = s; stage = p.stage; sweep = p.sweep; going = h }) j (same ∙ sym e))

-- src/parts.rt:30:5
pub returns-clause-again : goal.returns-clause-again
returns-clause-again c = λ j e. made_is _ _ _ j (search rules) e
