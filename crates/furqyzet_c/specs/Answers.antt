-- An answer in the words that C reads.
use Rattle.std.specs.Prelude.{ℕ, List, [], ◌∷◌, Some, None, Ok, Err, Option}
use Rattle.runs.specs.declared.call.Call.{Call}
use Rattle.runs.specs.declared.reply.Reply.TheVariants.{Advanced, Done, Seen}
use Rattle.runs.specs.declared.stage.Stage.{Stage}
use Rattle.runs.specs.Answers.{Answer}
use Rattle.runs.specs.Calls.{answered, called}
use Rattle.runs.specs.Faults.{question_of}
use Rattle.runs.specs.Jobs.{Job as Whole}
use Rattle.runs.specs.Settings.{Setting}
use Rattle.furqyzet_c.specs.declared.answer_words.AnswerWords.{AnswerWords}
use Rattle.furqyzet_c.specs.declared.call_words.CallWords.{CallWords}
use Rattle.furqyzet_c.specs.declared.job_words.JobWords.{JobWords}
use Rattle.furqyzet_c.specs.Calls.{call_in}
use Rattle.furqyzet_c.specs.Jobs.{state_of, found_of}

-- an answer with a number, beside a job at a stage
abbrev pub of_number : ℕ → Stage → AnswerWords
of_number k t = record { evaluations = 0; lowerings = 0; found = found_of t; number = k; class = 0; speed = 0; state = state_of t }

-- beside words that are no job's
abbrev pub of_no_job : JobWords → AnswerWords
of_no_job w = record { evaluations = 0; lowerings = 0; found = w.found; number = 255; class = 0; speed = 0; state = w.state }

-- what a call answered that left a job at a stage
abbrev pub answer_words : Answer → Stage → AnswerWords
answer_words (Ok (Advanced p)) t = record { evaluations = p.evaluations; lowerings = p.lowerings; found = found_of t; number = 0; class = 0; speed = 0; state = state_of t }
answer_words (Ok Done) t = of_number 0 t
answer_words (Ok (Seen s)) t = record { evaluations = 0; lowerings = 0; found = found_of t; number = 0; class = s.class; speed = s.speed; state = state_of t }
answer_words (Err f) t = of_number (question_of f) t

-- the answer to a call on a job; where it is none, by its number
abbrev pub replied_to : Setting → Option Call → Whole → AnswerWords
replied_to σ None j = of_number 254 j.stage
replied_to σ (Some c) j = answer_words (answered σ c j) (called σ c j).stage

-- and the job after it
abbrev pub moved : Setting → Option Call → Whole → Whole
moved σ None j = j
moved σ (Some c) j = called σ c j

-- the answers of a sequence of calls, those that are none among them
unfoldable pub replies : Setting → List CallWords → Whole → List AnswerWords
replies σ [] j = []
replies σ (w ∷ ws) j = replied_to σ (call_in w) j ∷ replies σ ws (moved σ (call_in w) j)
