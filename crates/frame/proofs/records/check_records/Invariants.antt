use Rattle.std.proofs.Common.{◌≡◌, ◌+◌, ◌-◌, ◌*◌}
use Rattle.frame.specs.Records.{records_read, done}
use Rattle.frame.proofs.records.check_records.Given as goal

-- what is left answers as all of them do
abbrev pub invariant-loop-index : goal.invariant-loop-index
invariant-loop-index g l =
    done (records_read (λ i. g.R.Records.start l.records + g.R.Records.size * i) (g.R.Records.answer l.records) (g.R.Records.count l.records - l.index-counter) l.index-counter)
    ≡ done (records_read (λ i. g.R.Records.start l.records + g.R.Records.size * i) (g.R.Records.answer l.records) (g.R.Records.count l.records) 0)
