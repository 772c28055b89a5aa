use Rattle.motion.proofs.Rates.{breaks_rule, is_no_limit}
use Rattle.motion.proofs.rate.rate_is_no_limit.Goals as goal

pub returns-clause-breaks : goal.returns-clause-breaks
returns-clause-breaks c = breaks_rule

pub returns-clause-apart : goal.returns-clause-apart
returns-clause-apart c = is_no_limit
