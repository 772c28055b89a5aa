-- What writing setpoints answers, and the memory after it.
use Rattle.std.specs.Prelude.{ℕ, cond, List, ◌++◌, length, drop, Ok, Err, Result, nat_le}
use Rattle.runs.specs.declared.stage.Make.TheVariants.{Classes, Speeds}
use Rattle.setpoint.specs.declared.fault.SetpointFault.{SetpointFault}
use Rattle.setpoint.specs.declared.fault.SetpointFault.TheVariants.{NoSetpointMemory}
use Rattle.setpoint.specs.declared.released.Released.{Released}
use Rattle.setpoint.specs.Frames.{setpoint_bytes_of, frame_size_of}
use Rattle.setpoint.specs.Release.{pair_of}

-- how many bytes the frame has
abbrev pub size_of : Released → ℕ
size_of r = frame_size_of (length r.classes.now)

-- the frame of the pair that was released
abbrev pub frame_of : Released → List ℕ
frame_of r = setpoint_bytes_of (pair_of r Classes) (pair_of r Speeds)

-- does a memory of so many bytes hold the frame of n samples?
abbrev pub memory_asked : (n room : ℕ) → Result (Unit {0}) SetpointFault
memory_asked n room = cond (nat_le (frame_size_of n) room) (Ok tt) (Err NoSetpointMemory)

-- the frame's size, where a memory of so many bytes holds it
abbrev pub write_answer : Released → ℕ → Result ℕ SetpointFault
write_answer r room = cond (nat_le (size_of r) room) (Ok (size_of r)) (Err NoSetpointMemory)

-- the frame in front and the rest as it was; where the frame does not fit, all of it as it was
abbrev pub memory_after : Released → List ℕ → List ℕ
memory_after r out = cond (nat_le (size_of r) (length out)) (frame_of r ++ drop (size_of r) out) out
