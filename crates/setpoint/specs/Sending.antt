-- What release and the writing of setpoints in one call asks and does.
use Rattle.std.specs.Prelude.{◌≡◌, ℕ, ◌≤◌, List, ◌++◌, length, drop, Ok, Err, Result}
use Rattle.grade.specs.Tops.{class_top, speed_top}
use Rattle.limit.specs.Numbers.{Number, LimitLaw}
use Rattle.runs.specs.declared.call.Call.{Call}
use Rattle.runs.specs.declared.stage.Make.TheVariants.{Classes, Speeds}
use Rattle.runs.specs.InForce.{in_force}
use Rattle.runs.specs.Keeping.{Pair, Greatest, own}
use Rattle.runs.specs.Making.{Start}
use Rattle.job.specs.declared.job.Job.{Job}
use Rattle.job.specs.Holding.{Held, count, whole_of, setting_of, Led}
use Rattle.setpoint.specs.declared.fault.SetpointFault.{SetpointFault}
use Rattle.setpoint.specs.declared.unreleased.Unreleased.{Unreleased}
use Rattle.setpoint.specs.Frames.{setpoint_bytes_of, frame_size_of}
use Rattle.setpoint.specs.Release.{release_asked, Ready}
use Rattle.setpoint.specs.Writing.{memory_asked}

-- the questions of release, and then that of the frame's memory
abbrev pub frame_asked : Job → (classes speeds room : ℕ) → Result (Unit {0}) SetpointFault
frame_asked j classes speeds room = elim (release_asked j classes speeds) [ Ok _ ↦ memory_asked j.samples.count room | Err f ↦ Err f ]

-- what a yes means
pub record Prepared (j : Job) (classes speeds room : ℕ) : Type 0 where
  pub ready : Ready j classes speeds
  pub fits : frame_size_of j.samples.count ≤ room

-- the questions that h is asked beside a memory
abbrev pub asked : Held → List ℕ → Result (Unit {0}) SetpointFault
asked h out = frame_asked h.job (length h.classes) (length h.speeds) (length out)

-- the job's own pair
abbrev pub own_pair_of : Held → Pair
own_pair_of h = own (whole_of h).sheets

-- the job of h is spent for its frame, which stands in front of the memory
pub record Spends (h : Held) (out out' : List ℕ) (size : ℕ) : Type 0 where
  pub size_is : size ≡ frame_size_of (count h)
  pub memory : out' ≡ setpoint_bytes_of (own_pair_of h Classes) (own_pair_of h Speeds) ++ drop (frame_size_of (count h)) out
  -- whatever lawful limits, start and calls led to the job, the pair sent is the greatest that keeps everything in force
  pub law : (a b : Number) → LimitLaw class_top a → LimitLaw speed_top b → (s : Start) (cs : List Call) → Led a b s cs h
      → Greatest (setting_of a b h) (in_force (setting_of a b h) s cs) (own_pair_of h)

-- after a yes
pub record Sent (h : Held) (out out' : List ℕ) (size : ℕ) : Type 0 where
  pub granted : asked h out ≡ Ok tt
  pub spent : Spends h out out' size

-- after a no the very job comes back, and the memory is as it was
pub record Unsent (h : Held) (out out' : List ℕ) (u : Unreleased) : Type 0 where
  pub refused : asked h out ≡ Err u.fault
  pub job : u.job ≡ h.job
  pub same : out' ≡ out

abbrev pub Sends : Held → (out out' : List ℕ) → Result ℕ Unreleased → Type 0
Sends h out out' (Ok size) = Sent h out out' size
Sends h out out' (Err u) = Unsent h out out' u
