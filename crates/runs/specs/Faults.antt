-- The number of the question that each fault answers no.
use Rattle.std.specs.Prelude.{ℕ}
use Rattle.runs.specs.declared.call.Fault.{Fault}
use Rattle.runs.specs.declared.call.Fault.TheVariants.{BadCount, NoClassMemory, NoSpeedMemory, NoSample, AboveTop, JobImpossible}

abbrev pub question_of : Fault → ℕ
-- does the path have 2 to 4096 samples?
question_of BadCount = 14
-- does the class memory hold a cell for each of them?
question_of NoClassMemory = 50
-- does the speed memory?
question_of NoSpeedMemory = 51
-- is the sample one of the path's?
question_of NoSample = 60
-- is the value a grade of its make?
question_of AboveTop = 61
-- can the job still be worked on?
question_of JobImpossible = 62
