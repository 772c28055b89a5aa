-- The setpoint frame, byte by byte.
use Rattle.std.specs.Prelude.{ℕ, ◌+◌, ◌*◌, List, [], ◌∷◌, ◌++◌, length}
use Rattle.words.specs.Words.{be16, be32}
use Rattle.grade.specs.declared.cell.Cell.{Cell}
use Rattle.grade.specs.Profiles.{Profile}
use Rattle.grade.specs.Ranks.{ranked_all}
use Rattle.runs.specs.Sheets.{values}
use Rattle.setpoint.specs.Roots.{root}

-- the profile that cells hold
abbrev pub profile : {G : Type 0} → (G → ℕ) → List (Cell G) → Profile
profile rank cells = values (ranked_all rank cells)

-- a setpoint: the class, and the greatest number whose square is at most the squared speed
abbrev pub setpoint : (class squared : ℕ) → List ℕ
setpoint c w = c ∷ be16 (root w)

-- the setpoints of a class profile and a speed profile, in sample order
abbrev pub setpoints : Profile → Profile → List ℕ
setpoints [] ws = []
setpoints (c ∷ cs) [] = []
setpoints (c ∷ cs) (w ∷ ws) = setpoint c w ++ setpoints cs ws

-- what stands before those of n samples: the version, the count of bytes that follow it, and n
abbrev pub header : ℕ → List ℕ
header n = 1 ∷ (be32 (2 + 3 * n) ++ be16 n)

-- the frame of a class profile and a speed profile
abbrev pub setpoint_bytes_of : Profile → Profile → List ℕ
setpoint_bytes_of cs ws = header (length cs) ++ setpoints cs ws

-- how many bytes a frame of n samples has
abbrev pub frame_size_of : ℕ → ℕ
frame_size_of n = 7 + 3 * n
