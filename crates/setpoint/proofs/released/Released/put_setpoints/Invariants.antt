use Rattle.std.proofs.Common.{◌≡◌, length, take}
use Rattle.words.specs.Words.{written}
use Rattle.grade.specs.Ranks.{class_rank, speed_rank}
use Rattle.setpoint.specs.Frames.{profile, setpoints}
use Rattle.setpoint.proofs.released.Released.put_setpoints.Given as goal

-- the setpoints so far stand behind the header, and all else is as it was
abbrev pub invariant-loop-i : goal.invariant-loop-i
invariant-loop-i l =
    l.out ≡ written l.initial.out 7 (setpoints (take (length l.yielded) (profile class_rank l.self.classes.now)) (take (length l.yielded) (profile speed_rank l.self.speeds.now)))
