-- The number of the question that each fault answers no.
use Rattle.std.specs.Prelude.{ℕ}
use Rattle.runs.specs.Faults.{question_of as job_question_of}
use Rattle.setpoint.specs.declared.fault.SetpointFault.{SetpointFault}
use Rattle.setpoint.specs.declared.fault.SetpointFault.TheVariants.{Sheets, NotSettled, NoSetpointMemory}

abbrev pub question_of : SetpointFault → ℕ
-- do the memories beside the job hold its samples?
question_of (Sheets f) = job_question_of f
-- is the job settled?
question_of NotSettled = 70
-- does the memory hold the setpoint frame?
question_of NoSetpointMemory = 71
