-- Calls on a job, as C sees them.
use Rattle.std.specs.Prelude.{◌≡◌, ℕ, List, [], ◌∷◌, ◌++◌, length, take, drop, Some, None, Ok, Err, Option, Result}
use Rattle.grade.specs.declared.cell.Cell.{Cell}
use Rattle.grade.specs.declared.class.Class.{Class}
use Rattle.grade.specs.declared.speed.Speed.{Speed}
use Rattle.limit.specs.Numbers.{Number}
use Rattle.frame.specs.declared.fault.FrameFault.{FrameFault}
use Rattle.frame.specs.declared.header.Header.{Header}
use Rattle.frame.specs.Paths.{header_of, path_read}
use Rattle.frame.specs.Refusals.{refusal_of}
use Rattle.frame.specs.Views.{path_of}
use Rattle.sources.specs.Sources.{class_number, speed_number}
use Rattle.runs.specs.declared.call.Call.{Call}
use Rattle.runs.specs.Answers.{Answer}
use Rattle.runs.specs.Calls.{Verdict}
use Rattle.runs.specs.Faults.{question_of}
use Rattle.runs.specs.Runs.{run}
use Rattle.job.specs.declared.job.Job.{Job}
use Rattle.job.specs.Calling.{Does, Holds, Lawful}
use Rattle.job.specs.Holding.{Held, held, room, setting_of, whole_of}
use Rattle.planner.specs.Asking.{remembered}
use Rattle.furqyzet_c.specs.declared.answer_words.AnswerWords.{AnswerWords}
use Rattle.furqyzet_c.specs.declared.call_words.CallWords.{CallWords}
use Rattle.furqyzet_c.specs.declared.job_words.JobWords.{JobWords}
use Rattle.furqyzet_c.specs.declared.refusal_words.RefusalWords.{RefusalWords}
use Rattle.furqyzet_c.specs.Answers.{of_no_job, answer_words, replies, of_number as answer_of_number}
use Rattle.furqyzet_c.specs.Calls.{calls_in}
use Rattle.furqyzet_c.specs.Jobs.{Reads, words_of}
use Rattle.furqyzet_c.specs.Refusals.{of_number, refusal_words}

-- ---- one call

-- under limits of these numbers the call takes h to h', by the library's law, and its answer is x
pub record Acts (a b : Number) (call : Call) (h h' : Held) (x : AnswerWords) : Type 0 where
  pub answer : Answer
  pub does : Does a b call h h' answer
  pub law : Lawful a b (call ∷ []) h h'
  pub words : x ≡ answer_words answer h'.job.stage

-- the same of words, which change nothing where they are no call's
abbrev pub ActsIn : (a b : Number) → Option Call → (h h' : Held) → AnswerWords → Type 0
ActsIn a b None h h' x = (h' ≡ h) × (x ≡ answer_of_number 254 h.job.stage)
ActsIn a b (Some call) h h' x = Acts a b call h h' x

-- ---- a call on the job of words

-- two memories and a job's words
pub record Memory : Type 0 where
  pub words : JobWords
  pub classes : List (Cell Class)
  pub speeds : List (Cell Speed)

abbrev pub memory : JobWords → List (Cell Class) → List (Cell Speed) → Memory
memory w cs ss = record { words = w; classes = cs; speeds = ss }

-- h is the job of the words and the cells
abbrev pub Holding : Memory → Held → Type 0
Holding u h = (u.words ≡ words_of h.job) × (u.classes ≡ h.classes) × (u.speeds ≡ h.speeds)

abbrev pub ActsOn : (a b : Number) → Call → Option Job → (u u' : Memory) → AnswerWords → Type 0
ActsOn a b call None u u' x = (u' ≡ u) × (x ≡ of_no_job u.words)
ActsOn a b call (Some j) u u' x = (h' : Held) × Holding u' h' × Acts a b call (held j u.classes u.speeds) h' x

-- the call on the job whose words they are; nothing changes where they are none's
pub record ActsWords (a b : Number) (call : Call) (u u' : Memory) (x : AnswerWords) : Type 0 where
  pub job : Option Job
  pub reads : Reads u.words job
  pub acts : ActsOn a b call job u u' x

-- ---- a sequence of calls

-- the calls take h to h', by the library's law, and write their answers over the first old ones
pub record Performs (a b : Number) (ws : List CallWords) (h h' : Held) (old new : List AnswerWords) : Type 0 where
  pub holds : Holds (run (setting_of a b h) (calls_in ws) (whole_of h)) h h'
  pub law : Lawful a b (calls_in ws) h h'
  pub answered : new ≡ replies (setting_of a b h) ws (whole_of h) ++ drop (length ws) old

-- the calls for whose answers there is a place
abbrev pub placed : List CallWords → List AnswerWords → List CallWords
placed ws places = take (length places) ws

-- a refusal of all of them
abbrev pub Refuses : (u u' : Memory) (old new : List AnswerWords) (x w : RefusalWords) → Type 0
Refuses u u' old new x w = (u' ≡ u) × (new ≡ old) × (x ≡ w)

abbrev pub RunsIn : List ℕ → Verdict → Job → List CallWords → (u u' : Memory) (old new : List AnswerWords) → RefusalWords → Type 0
RunsIn bs (Err f) j ws u u' old new x = Refuses u u' old new x (refusal_words (remembered (question_of f)))
RunsIn bs (Ok _) j ws u u' old new x =
    (h' : Held) × Holding u' h' × (x ≡ of_number 0)
    × Performs (class_number (path_of bs)) (speed_number (path_of bs)) (placed ws old) (held j u.classes u.speeds) h' old new

abbrev pub RunsOn : List ℕ → Option Job → List CallWords → (u u' : Memory) (old new : List AnswerWords) → RefusalWords → Type 0
RunsOn bs None ws u u' old new x = Refuses u u' old new x (of_number 255)
RunsOn bs (Some j) ws u u' old new x = RunsIn bs (room (held j u.classes u.speeds)) j ws u u' old new x

pub record RunsRead (bs : List ℕ) (ws : List CallWords) (u u' : Memory) (old new : List AnswerWords) (x : RefusalWords) : Type 0 where
  pub job : Option Job
  pub reads : Reads u.words job
  pub runs : RunsOn bs job ws u u' old new x

abbrev pub RunsUnder : List ℕ → Result Header FrameFault → List CallWords → (u u' : Memory) (old new : List AnswerWords) → RefusalWords → Type 0
RunsUnder bs (Err f) ws u u' old new x = Refuses u u' old new x (refusal_words (refusal_of f))
RunsUnder bs (Ok _) ws u u' old new x = RunsRead bs ws u u' old new x

-- the frame's questions, then the job's, then the memories', and then the calls
abbrev pub RunsWords : List ℕ → List CallWords → (u u' : Memory) (old new : List AnswerWords) → RefusalWords → Type 0
RunsWords bs = RunsUnder bs (header_of (path_read bs))
