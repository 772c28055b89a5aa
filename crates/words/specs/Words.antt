-- Numbers as bytes, the highest byte first.
use Rattle.std.specs.Prelude.{ℕ, ◌+◌, ◌*◌, ◌/◌, ◌%◌, ◌<◌, List, [], ◌∷◌, ◌++◌, length, take, drop, slice_index}

-- the number of 16 bits, and of 32, that stands at an offset
abbrev pub be16_at : List ℕ → ℕ → ℕ
be16_at bs at = slice_index bs at * 256 + slice_index bs (at + 1)

abbrev pub be32_at : List ℕ → ℕ → ℕ
be32_at bs at = slice_index bs at * 16777216 + slice_index bs (at + 1) * 65536 + slice_index bs (at + 2) * 256 + slice_index bs (at + 3)

-- the bytes of a number of 16 bits, and of 32
abbrev pub be16 : ℕ → List ℕ
be16 v = (v / 256 % 256) ∷ (v % 256) ∷ []

abbrev pub be32 : ℕ → List ℕ
be32 v = (v / 16777216 % 256) ∷ (v / 65536 % 256) ∷ (v / 256 % 256) ∷ (v % 256) ∷ []

-- every element is a byte
abbrev pub Bytes : List ℕ → Type 0
Bytes bs = (i : ℕ) → i < length bs → slice_index bs i < 256

-- the k elements from an offset on
abbrev pub slice : List ℕ → ℕ → ℕ → List ℕ
slice bs at k = take k (drop at bs)

-- d with vs in the place of what stood from an offset on
abbrev pub written : List ℕ → ℕ → List ℕ → List ℕ
written d at vs = take at d ++ (vs ++ drop (at + length vs) d)
