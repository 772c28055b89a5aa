-- What a call promises: its answer, the job and the memory as it leaves them, and the law.
use Rattle.std.specs.Prelude.{◌≡◌, ℕ, ◌<◌, ◌≤◌, List, [], ◌∷◌, ◌++◌, length, take, drop, Ok, Err, Result}
use Rattle.grade.specs.Tops.{class_top, speed_top}
use Rattle.limit.specs.Numbers.{Number, LimitLaw}
use Rattle.runs.specs.declared.call.Call.{Call}
use Rattle.runs.specs.declared.call.Call.TheVariants.{Advance, Cut, Lift, Look}
use Rattle.runs.specs.declared.call.Fault.{Fault}
use Rattle.runs.specs.declared.reply.Progress.{Progress}
use Rattle.runs.specs.declared.reply.Reply.{Reply}
use Rattle.runs.specs.declared.reply.Reply.TheVariants.{Advanced, Done, Seen}
use Rattle.runs.specs.declared.reply.Sight.{Sight}
use Rattle.runs.specs.Answers.{Answer}
use Rattle.runs.specs.Jobs.{Job as Whole}
use Rattle.runs.specs.Making.{Start}
use Rattle.runs.specs.Calls.{Verdict, verdict, acted, replied}
use Rattle.runs.specs.Law.{RunLaw}
use Rattle.job.specs.Grades.{class_of, speed_of, cells_of}
use Rattle.job.specs.Whole.{top_of}
use Rattle.job.specs.Holding.{Held, count, whole_of, setting_of, room_for, judged, Led}

-- every question before a call: those of memory, then the call's own
abbrev pub asked : (a b : Number) → Call → Held → Verdict
asked a b call h = room_for (count h) (length h.classes) (length h.speeds) (verdict (setting_of a b h) call h.job.stage)

-- where a call leads under limits of these numbers: a refused one leads nowhere else
abbrev pub outcome : (a b : Number) → Call → Held → Whole
outcome a b call h = judged (asked a b call h) (acted (setting_of a b h) call (whole_of h)) (λ _. whole_of h)

-- what a call answers
abbrev pub reply : (a b : Number) → Call → Held → Answer
reply a b call h = judged (asked a b call h) (Ok (replied (setting_of a b h) call (whole_of h))) Err

-- h' holds the sheets of the job j, cell by cell, and past its samples what h held
pub record Holds (j : Whole) (h h' : Held) : Type 0 where
  pub samples : h'.job.samples ≡ h.job.samples
  -- the stage, the sweep, and the sheets as ranks
  pub job : whole_of h' ≡ j
  -- the cells of the samples: of each rank its one grade
  pub classes : take (count h) h'.classes ≡ cells_of class_of j.sheets.classes
  pub speeds : take (count h) h'.speeds ≡ cells_of speed_of j.sheets.speeds
  -- the cells past them
  pub past_classes : drop (count h) h'.classes ≡ drop (count h) h.classes
  pub past_speeds : drop (count h) h'.speeds ≡ drop (count h) h.speeds
  pub long_classes : length h'.classes ≡ length h.classes
  pub long_speeds : length h'.speeds ≡ length h.speeds

-- under limits of these numbers, the call takes h to h' and answers x
pub record Does (a b : Number) (call : Call) (h h' : Held) (x : Answer) : Type 0 where
  pub answer : x ≡ reply a b call h
  pub holds : Holds (outcome a b call h) h h'
  -- refused, it leaves the very job and the very cells
  pub unchanged : (f : Fault) → x ≡ Err f → h' ≡ h

-- whatever lawful start and earlier calls led to h, they lead to h' with these calls added, and the law holds of them all
pub record Lawful (a b : Number) (calls : List Call) (h h' : Held) : Type 0 where
  pub leads : (s : Start) (earlier : List Call) → Led a b s earlier h → Led a b s (earlier ++ calls) h'
  pub law : (s : Start) (earlier : List Call) → Led a b s earlier h → RunLaw (setting_of a b h) s (earlier ++ calls) (whole_of h')

-- what a call promises that is handed no limit: what it does, under any two, and the law under any two that are lawful
pub record Promises (call : Call) (h h' : Held) (x : Answer) : Type 0 where
  pub does : (a b : Number) → Does a b call h h' x
  pub law : (a b : Number) → LimitLaw class_top a → LimitLaw speed_top b → Lawful a b (call ∷ []) h h'

-- what a method that asks returns, as an answer, where it makes this reply of what it was asked for
abbrev pub replying : {X : Type 0} → (X → Reply) → Result X Fault → Answer
replying with (Ok x) = Ok (with x)
replying with (Err f) = Err f

-- what an advance, a change and a look return, as answers
abbrev pub told : Result Progress Fault → Answer
told r = replying Advanced r

abbrev pub done : Result (Unit {0}) Fault → Answer
done r = replying (λ _. Done) r

abbrev pub seen : Result Sight Fault → Answer
seen r = replying Seen r

-- the numbers of a call are of the path and of the make
abbrev pub InRange : ℕ → Call → Type 0
InRange n (Advance k) = Unit {0}
InRange n (Cut m i v) = (i < n) × (v ≤ top_of m)
InRange n (Lift m i v) = (i < n) × (v ≤ top_of m)
InRange n (Look i) = i < n
