-- Writes one after another.
use Rattle.std.proofs.Common.{◌≡◌, ℕ, ◌+◌, ◌≤◌, List, [], ◌++◌, length, take, drop, sym, ap, ◌∙◌, append_assoc, add-zero, add_assoc, arith, length-append}
use Rattle.std.proofs.lemmas.List.{drop-drop, take_at, drop_at, length-take-le, length-drop, take-append-drop}
use Rattle.words.specs.Words.{slice, written}
use Rattle.words.proofs.Slices.{slices}

-- a write behind a front of n elements
pub front : (p d vs : List ℕ) (n : ℕ) → length p ≡ n → written (p ++ drop n d) n vs ≡ (p ++ vs) ++ drop (n + length vs) d
front p d vs n h =
    let q = drop n d in
    ap (λ (z : List ℕ). z ++ (vs ++ drop (n + length vs) (p ++ q))) (take_at p q n h)
    ∙ ap (λ (z : List ℕ). p ++ (vs ++ z)) (sym (drop-drop (length vs) n (p ++ q)) ∙ ap (drop (length vs)) (drop_at p q n h) ∙ drop-drop (length vs) n d)
    ∙ sym (append_assoc p vs (drop (n + length vs) d))

-- nothing written
pub nothing : (d : List ℕ) (at : ℕ) → d ≡ written d at []
nothing d at = sym (rw add-zero (take-append-drop at d))

-- two writes, one behind the other
pub twice : (d us vs : List ℕ) (at n : ℕ) → at ≤ length d → n ≡ at + length us → written (written d at us) n vs ≡ written d at (us ++ vs)
twice d us vs at n h e =
    let p = take at d ++ us in
    let l : length p ≡ n = length-append (take at d) us ∙ ap (λ (z : ℕ). z + length us) (length-take-le at d h) ∙ sym e in
    ap (λ (z : List ℕ). written z n vs) (sym (append_assoc (take at d) us (drop (at + length us) d)) ∙ ap (λ (z : ℕ). p ++ drop z d) (sym e))
    ∙ front p d vs n l
    ∙ ap (λ (z : List ℕ). z ++ drop (n + length vs) d) (append_assoc (take at d) us vs)
    ∙ append_assoc (take at d) (us ++ vs) (drop (n + length vs) d)
    ∙ ap (λ (z : ℕ). take at d ++ ((us ++ vs) ++ drop z d)) (ap (λ (z : ℕ). z + length vs) e ∙ add_assoc at (length us) (length vs) ∙ ap (λ (z : ℕ). at + z) (sym (length-append us vs)))

pub length-slice : (bs : List ℕ) (at k : ℕ) → at + k ≤ length bs → length (slice bs at k) ≡ k
length-slice bs at k h = length-take-le k (drop at bs) (omega (arith, length-drop at bs))

-- a slice written where it lies, and the next one behind it
pub slices_written : (d bs : List ℕ) (at n j k : ℕ) → at ≤ length d → at + j ≤ length bs → n ≡ at + j
    → written (written d at (slice bs at j)) n (slice bs n k) ≡ written d at (slice bs at (j + k))
slices_written d bs at n j k h l e =
    twice d (slice bs at j) (slice bs n k) at n h (e ∙ ap (λ (z : ℕ). at + z) (sym (length-slice bs at j l)))
    ∙ ap (λ (z : List ℕ). written d at z) (ap (λ (z : ℕ). slice bs at j ++ slice bs z k) e ∙ slices bs at j k)
