-- Numbers read from bytes and written again, and parts of a byte string put together.
use Rattle.std.proofs.Common.{◌≡◌, ℕ, zero, suc, ◌+◌, ◌*◌, ◌/◌, ◌%◌, ◌<◌, ◌≤◌, List, [], ◌∷◌, ◌++◌, length, get_or, take, drop, sym, refl, ap, ◌∙◌, add_assoc, arith}
use Rattle.std.proofs.lemmas.List.{drop-drop, drop_more}
use Rattle.words.specs.Words.{be16_at, be32_at, be16, be32, Bytes, slice}

none : (k : ℕ) → take {A = ℕ} k [] ≡ []
none zero = refl
none (suc k) = refl

split : (j k : ℕ) (l : List ℕ) → take j l ++ take k (drop j l) ≡ take (j + k) l
split zero k l = let e : 0 + k ≡ k = omega arith in rw e refl
split (suc j) k [] = let e : suc j + k ≡ suc (j + k) = omega arith in rw e (none k)
split (suc j) k (x ∷ l) = let e : suc j + k ≡ suc (j + k) = omega arith in rw e (ap (λ (z : List ℕ). x ∷ z) (split j k l))

-- two slices, one behind the other
pub slices : (bs : List ℕ) (at j k : ℕ) → slice bs at j ++ slice bs (at + j) k ≡ slice bs at (j + k)
slices bs at j k = ap (λ (z : List ℕ). slice bs at j ++ take k z) (sym (drop-drop j at bs)) ∙ split j k (drop at bs)

more : (bs : List ℕ) (at k : ℕ) → at < length bs → slice bs at (suc k) ≡ get_or bs at 0 ∷ slice bs (at + 1) k
more bs at k h = ap (take (suc k)) (drop_more bs at 0 h)

pub slice_byte : (bs : List ℕ) (at : ℕ) → at < length bs → get_or bs at 0 ∷ [] ≡ slice bs at 1
slice_byte bs at h = sym (more bs at 0 h)

digits16 : (a b : ℕ) → a < 256 → b < 256 → be16 (a * 256 + b) ≡ a ∷ b ∷ []
digits16 a b h k =
    let p : (a * 256 + b) / 256 % 256 ≡ a = omega arith in
    let q : (a * 256 + b) % 256 ≡ b = omega arith in
    rw (p, q)

digits32 : (a b c d : ℕ) → a < 256 → b < 256 → c < 256 → d < 256 → be32 (a * 16777216 + b * 65536 + c * 256 + d) ≡ a ∷ b ∷ c ∷ d ∷ []
digits32 a b c d h i j k =
    let n = a * 16777216 + b * 65536 + c * 256 + d in
    let p : (a * 16777216 + b * 65536 + c * 256 + d) / 16777216 % 256 ≡ a = omega arith in
    let q : (a * 16777216 + b * 65536 + c * 256 + d) / 65536 % 256 ≡ b = omega arith in
    let r : (a * 16777216 + b * 65536 + c * 256 + d) / 256 % 256 ≡ c = omega arith in
    let s : (a * 16777216 + b * 65536 + c * 256 + d) % 256 ≡ d = omega arith in
    rw (p, q, r, s)

two : (bs : List ℕ) (at : ℕ) → at + 2 ≤ length bs → slice bs at 2 ≡ get_or bs at 0 ∷ get_or bs (at + 1) 0 ∷ []
two bs at h = more bs at 1 (omega arith) ∙ ap (λ (z : List ℕ). get_or bs at 0 ∷ z) (more bs (at + 1) 0 (omega arith))

pub slice16 : (bs : List ℕ) (at : ℕ) → Bytes bs → at + 2 ≤ length bs → be16 (be16_at bs at) ≡ slice bs at 2
slice16 bs at b h = digits16 (get_or bs at 0) (get_or bs (at + 1) 0) (b at (omega arith)) (b (at + 1) (omega arith)) ∙ sym (two bs at h)

pub slice32 : (bs : List ℕ) (at : ℕ) → Bytes bs → at + 4 ≤ length bs → be32 (be32_at bs at) ≡ slice bs at 4
slice32 bs at b h =
    digits32 (get_or bs at 0) (get_or bs (at + 1) 0) (get_or bs (at + 2) 0) (get_or bs (at + 3) 0) (b at (omega arith)) (b (at + 1) (omega arith)) (b (at + 2) (omega arith)) (b (at + 3) (omega arith))
    ∙ sym (more bs at 3 (omega arith)
    ∙ ap (λ (z : List ℕ). get_or bs at 0 ∷ z) (more bs (at + 1) 2 (omega arith)
    ∙ ap (λ (z : List ℕ). get_or bs (at + 1) 0 ∷ z) (rw (add_assoc at 1 1) (two bs (at + 2) (omega arith) ∙ rw (add_assoc at 2 1)))))
