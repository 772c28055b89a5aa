use Rattle.std.proofs.Common.{◌≡◌, ◌*◌}
use Rattle.words.specs.Words.{slice, written}
use Rattle.frame.proofs.records.put_records.Given as goal

-- the records so far stand where they lie, and all else is as it was
abbrev pub invariant-loop-index : goal.invariant-loop-index
invariant-loop-index g l =
    l.out ≡ written l.initial.out (g.R.Records.start l.records) (slice (g.R.Records.source l.records) (g.R.Records.start l.records) (g.R.Records.size * l.index))
