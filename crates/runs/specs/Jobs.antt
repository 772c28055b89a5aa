-- A job: its stage, its sweep and its sheets.
use Rattle.std.specs.Prelude.{ℕ, suc, ◌-◌, true, false}
use Rattle.runs.specs.declared.stage.Direction.{Direction}
use Rattle.runs.specs.declared.stage.Direction.TheVariants.{Rising, Falling}
use Rattle.runs.specs.declared.stage.Stage.{Stage}
use Rattle.runs.specs.declared.stage.Sweep.{Sweep}
use Rattle.runs.specs.Sheets.{Sheets}

-- a sweep that begins: rising, nothing visited, nothing lowered
abbrev pub fresh : Sweep
fresh = record { direction = Rising; visited = 0; marked = false }

-- a sweep in which a value fell
abbrev pub marking : Sweep → Sweep
marking w = record { direction = w.direction; visited = w.visited; marked = true }

-- a sweep one visit later
abbrev pub onward : Sweep → Sweep
onward w = record { direction = w.direction; visited = suc w.visited; marked = w.marked }

-- the other way
abbrev pub opposite : Direction → Direction
opposite Rising = Falling
opposite Falling = Rising

-- the sweep after this one, the other way
abbrev pub turned : Sweep → Sweep
turned w = record { direction = opposite w.direction; visited = 0; marked = false }

-- the sample that comes next in this direction after v of n samples
abbrev pub next : ℕ → Direction → ℕ → ℕ
next n Rising v = v
next n Falling v = n - suc v

-- the sample that a sweep over n samples visits next
abbrev pub upcoming : ℕ → Sweep → ℕ
upcoming n w = next n w.direction w.visited

pub record Job : Type 0 where
  pub stage : Stage
  pub sweep : Sweep
  pub sheets : Sheets

-- a job of these parts
abbrev pub job : Stage → Sweep → Sheets → Job
job t w S = record { stage = t; sweep = w; sheets = S }
