-- The class table.
use Rattle.std.specs.Prelude.{ℕ, List, [], ◌∷◌, slice_index}

-- for classes 0 to 7
abbrev pub entries : List ℕ
entries = 0 ∷ 4096 ∷ 16384 ∷ 65536 ∷ 147456 ∷ 262144 ∷ 1048576 ∷ 2147483647 ∷ []

-- the greatest squared speed that a class grants
abbrev pub entry : ℕ → ℕ
entry class = slice_index entries class
