-- A job together with its sheets, as the definitions over ranks speak of it, and what it works under.
use Rattle.std.specs.Prelude.{ℕ, List}
use Rattle.grade.specs.declared.cell.Cell.{Cell}
use Rattle.grade.specs.declared.class.Class.{Class}
use Rattle.grade.specs.declared.speed.Speed.{Speed}
use Rattle.grade.specs.Ranks.{class_rank, speed_rank, ranked_all}
use Rattle.grade.specs.Tops.{class_top, speed_top}
use Rattle.limit.specs.Numbers.{Number}
use Rattle.runs.specs.declared.stage.Make.{Make}
use Rattle.runs.specs.declared.stage.Make.TheVariants.{Classes, Speeds}
use Rattle.runs.specs.Settings.{Setting}
use Rattle.runs.specs.Sheets.{Sheets}
use Rattle.runs.specs.Jobs.{Job as Whole, job}
use Rattle.runs.specs.Calls.{Course}
use Rattle.job.specs.declared.job.Job.{Job}
use Rattle.job.specs.Table.{entry}

-- two memories as sheets of ranks
abbrev pub sheets_of : List (Cell Class) → List (Cell Speed) → Sheets
sheets_of classes speeds = record { classes = ranked_all class_rank classes; speeds = ranked_all speed_rank speeds }

-- a job and its sheets
abbrev pub whole : Job → List (Cell Class) → List (Cell Speed) → Whole
whole j classes speeds = job j.stage j.sweep (sheets_of classes speeds)

-- the top of a make
abbrev pub top_of : Make → ℕ
top_of Classes = class_top
top_of Speeds = speed_top

-- the limit of a make, of these two
abbrev pub limit_of : Number → Number → Make → Number
limit_of classes speeds Classes = classes
limit_of classes speeds Speeds = speeds

-- what a job of n samples works under, with limits of these numbers
abbrev pub setting : ℕ → (classes speeds : Number) → Setting
setting n classes speeds = record { samples = n; top = top_of; number = limit_of classes speeds; table = entry }

-- how far an advance came
abbrev pub course : Whole → (evaluations lowerings : ℕ) → Course
course j e l = record { job = j; evaluations = e; lowerings = l }
