use Rattle.worked.proofs.Caps.{caps_shown}
use Rattle.worked.proofs.LimitsShown.{limits_shown}
use Rattle.worked.proofs.Job.{job_shown}
use Rattle.worked.proofs.examples.Goals as goal

pub returns : goal.returns
returns c = record { caps = caps_shown; limits = limits_shown; job = job_shown }
