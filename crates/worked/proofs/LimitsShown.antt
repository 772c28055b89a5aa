-- The numbers of the examples' limits, by computation.
use Rattle.std.proofs.Common.{refl}
use Rattle.worked.specs.LimitExamples.{LimitExamples}

pub limits_shown : LimitExamples
limits_shown = record { between = refl; nothing = refl; next = refl; last = refl; next_negative = refl; last_negative = refl; ramped = refl; outside = refl }
