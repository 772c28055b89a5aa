-- A path of three samples, from its frame's bytes to its settled job, as one statement.
use Rattle.std.specs.Prelude.{◌≡◌, ℕ, ◌+◌, ◌*◌, List, [], ◌∷◌, ℤ, pos, Ok, sum}
use Rattle.grade.specs.Tops.{speed_top}
use Rattle.clause.specs.declared.clause.CapClause.TheVariants.{Fixed}
use Rattle.record.specs.declared.gap.Gap.{Gap}
use Rattle.record.specs.declared.sample.Sample.{Sample}
use Rattle.frame.specs.Paths.{Path, path_read}
use Rattle.sources.specs.Sources.{class_number, speed_number}
use Rattle.runs.specs.declared.reply.Reply.TheVariants.{Advanced}
use Rattle.runs.specs.Answers.{Answer}
use Rattle.runs.specs.declared.call.Call.TheVariants.{Advance}
use Rattle.runs.specs.declared.stage.Make.TheVariants.{Classes, Speeds}
use Rattle.runs.specs.declared.stage.Stage.TheVariants.{Working, Settled}
use Rattle.runs.specs.Jobs.{Job}
use Rattle.runs.specs.Keeping.{own}
use Rattle.runs.specs.Making.{made}
use Rattle.runs.specs.Runs.{answers, after}
use Rattle.runs.specs.Settings.{Setting}
use Rattle.job.specs.Whole.{setting}
use Rattle.planner.specs.Starts.{start_from}

-- ---- the path

-- a frame: version and length, header, three samples, two gaps
abbrev pub frame : List ℕ
frame =
    1 ∷ 0 ∷ 0 ∷ 0 ∷ 94
    ∷ 0 ∷ 3 ∷ 0 ∷ 1 ∷ 0 ∷ 0 ∷ 0 ∷ 0 ∷ 0 ∷ 0
    ∷ 3 ∷ 7 ∷ 0 ∷ 0 ∷ 0 ∷ 0 ∷ 0 ∷ 0 ∷ 0 ∷ 0 ∷ 0 ∷ 0 ∷ 0 ∷ 0 ∷ 0 ∷ 0 ∷ 0 ∷ 0 ∷ 0 ∷ 0
    ∷ 3 ∷ 7 ∷ 0 ∷ 0 ∷ 0 ∷ 0 ∷ 0 ∷ 9 ∷ 0 ∷ 0 ∷ 0 ∷ 0 ∷ 0 ∷ 0 ∷ 0 ∷ 0 ∷ 127 ∷ 255 ∷ 255 ∷ 255
    ∷ 3 ∷ 7 ∷ 0 ∷ 0 ∷ 0 ∷ 0 ∷ 0 ∷ 9 ∷ 0 ∷ 0 ∷ 0 ∷ 0 ∷ 0 ∷ 0 ∷ 0 ∷ 0 ∷ 0 ∷ 0 ∷ 0 ∷ 0
    ∷ 7 ∷ 7 ∷ 0 ∷ 0 ∷ 0 ∷ 0 ∷ 0 ∷ 1 ∷ 127 ∷ 255 ∷ 255 ∷ 255
    ∷ 7 ∷ 7 ∷ 0 ∷ 0 ∷ 0 ∷ 0 ∷ 0 ∷ 1 ∷ 127 ∷ 255 ∷ 255 ∷ 255
    ∷ []

-- a sample with a fixed cap on its squared speed, the highest class and no floors
abbrev pub fixed : (speed : ℕ) → (q : ℤ) → Sample
fixed w q = record { clause = Fixed w; class_cap = 7; class_floor = 0; speed_floor = 0; q = q }

-- a gap over which squared speeds rise by at most 1, and classes and falling speeds are free
abbrev pub gap : Gap
gap = record { rise = 7; fall = 7; up = 1; down = speed_top }

abbrev pub path : Path
path = record {
  header = record { samples = 3; spacing = 1; lateral = 0; rows = 0 };
  samples = fixed 0 (pos 0) ∷ fixed 9 (pos speed_top) ∷ fixed 9 (pos 0) ∷ [];
  gaps = gap ∷ gap ∷ [];
  rows = [];
}

-- ---- its job

-- what it works under: the path's own limits
abbrev pub under : Setting
under = setting path.header.samples (class_number path) (speed_number path)

-- newly made
abbrev pub begun : Job
begun = made under (start_from path)

-- after one advance
abbrev pub advanced : (allowance : ℕ) → Job
advanced k = after under (start_from path) (Advance k ∷ [])

-- the answer to that advance
abbrev pub answer : (allowance : ℕ) → List Answer
answer k = answers under (Advance k ∷ []) begun

-- an advance with the allowance k settles it
pub record Settles (k : ℕ) : Type 0 where
  -- after 9 evaluations, 2 of which lowered a value
  pub answered : answer k ≡ Ok (Advanced (record { stage = Settled; evaluations = 9; lowerings = 2 })) ∷ []
  pub classes : own (advanced k).sheets Classes ≡ 7 ∷ 7 ∷ 7 ∷ []
  pub speeds : own (advanced k).sheets Speeds ≡ 0 ∷ 1 ∷ 2 ∷ []

pub record JobExamples : Type 0 where
  pub read : path_read frame ≡ Ok path
  pub settles : Settles 9
  -- one evaluation fewer leaves it at work
  pub works : answer 8 ≡ Ok (Advanced (record { stage = Working Speeds; evaluations = 8; lowerings = 2 })) ∷ []
  -- samples × (sum of the classes + sum of the squared speeds + 3) suffices
  pub sufficient : path.header.samples * (sum (own begun.sheets Classes) + sum (own begun.sheets Speeds) + 3) ≡ 126
  pub suffices : Settles 126
