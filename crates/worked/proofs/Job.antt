-- The job of the examples, by computation.
use Rattle.std.proofs.Common.{refl}
use Rattle.frame.specs.Paths.{sample_at_of, gap_at, row_at, path_read}
use Rattle.runs.specs.Calls.{advanced, acted, replied, called, answered}
use Rattle.runs.specs.Evaluations.{found, poured, continued, followed, finding, evaluated}
use Rattle.runs.specs.Making.{checked, made}
use Rattle.runs.specs.Runs.{run, answers}
use Rattle.worked.specs.JobExamples.{JobExamples}

pub job_shown : JobExamples
unfolding path_read sample_at_of gap_at row_at made checked run answers called answered acted replied advanced evaluated finding followed continued poured found
job_shown = record {
  read = refl;
  settles = record { answered = refl; classes = refl; speeds = refl };
  works = refl;
  sufficient = refl;
  suffices = record { answered = refl; classes = refl; speeds = refl };
}
