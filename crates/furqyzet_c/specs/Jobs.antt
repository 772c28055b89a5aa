-- A job in the words that C keeps, and the job that such words are.
use Rattle.std.specs.Prelude.{◌≡◌, ◌≢◌, ℕ, Bool, true, false, cond, ◌==◌, Some, None, Option}
use Rattle.runs.specs.declared.stage.Direction.{Direction}
use Rattle.runs.specs.declared.stage.Direction.TheVariants.{Rising, Falling}
use Rattle.runs.specs.declared.stage.Make.TheVariants.{Classes, Speeds}
use Rattle.runs.specs.declared.stage.Stage.{Stage}
use Rattle.runs.specs.declared.stage.Stage.TheVariants.{Working, Settled, Impossible}
use Rattle.job.specs.declared.job.Job.{Job}
use Rattle.job.specs.declared.parts.Parts.{Parts}
use Rattle.job.specs.Parts.{parts_of}
use Rattle.furqyzet_c.specs.declared.job_words.JobWords.{JobWords}

-- ---- from a job

abbrev pub state_of : Stage → ℕ
state_of (Working Classes) = 0
state_of (Working Speeds) = 1
state_of Settled = 2
state_of (Impossible i) = 3

-- the sample at which it was found impossible
abbrev pub found_of : Stage → ℕ
found_of (Working m) = 0
found_of Settled = 0
found_of (Impossible i) = i

abbrev pub falling_of : Direction → ℕ
falling_of Rising = 0
falling_of Falling = 1

abbrev pub mark_of : Bool → ℕ
mark_of b = cond b 1 0

abbrev pub words_of_parts : Parts → JobWords
words_of_parts p = record { samples = p.samples; found = found_of p.stage; visited = p.sweep.visited; state = state_of p.stage; falling = falling_of p.sweep.direction; marked = mark_of p.sweep.marked; spare = 0 }

abbrev pub words_of : Job → JobWords
words_of j = words_of_parts (parts_of j)

-- the words of no job
abbrev pub no_words : JobWords
no_words = record { samples = 0; found = 0; visited = 0; state = 0; falling = 0; marked = 0; spare = 0 }

-- ---- back

-- what follows where there is a value
abbrev pub given : {A B : Type 0} → Option A → (A → Option B) → Option B
given None next = None
given (Some x) next = next x

-- the stage of a state that found no sample
abbrev pub state_in : ℕ → Option Stage
state_in s = cond (s == 0) (Some (Working Classes)) (cond (s == 1) (Some (Working Speeds)) (cond (s == 2) (Some Settled) None))

abbrev pub stage_in : ℕ → ℕ → Option Stage
stage_in s f = cond (s == 3) (Some (Impossible f)) (cond (f == 0) (state_in s) None)

abbrev pub direction_in : ℕ → Option Direction
direction_in k = cond (k == 0) (Some Rising) (cond (k == 1) (Some Falling) None)

abbrev pub mark_in : ℕ → Option Bool
mark_in k = cond (k == 0) (Some false) (cond (k == 1) (Some true) None)

-- the parts of the last three
abbrev pub parts_from : JobWords → Stage → Direction → Bool → Parts
parts_from w t d m = record { samples = w.samples; stage = t; sweep = record { direction = d; visited = w.visited; marked = m } }

-- the parts that words stand for
abbrev pub parts_in : JobWords → Option Parts
parts_in w = cond (w.spare == 0) (given (stage_in w.state w.found) (λ t. given (direction_in w.falling) (λ d. given (mark_in w.marked) (λ m. Some (parts_from w t d m))))) None

-- r is the job whose words they are
abbrev pub Reads : JobWords → Option Job → Type 0
Reads w None = (j : Job) → words_of j ≢ w
Reads w (Some j) = words_of j ≡ w
