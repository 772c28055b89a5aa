-- Records written one after another, each where it lies.
use Rattle.std.proofs.Common.{◌≡◌, ℕ, ◌+◌, ◌*◌, ◌<◌, ◌≤◌, List, length, sym, refl, ap, ◌∙◌, mul-le-mul_left, mul-one, mul-add, arith}
use Rattle.words.specs.Words.{slice, written}
use Rattle.words.proofs.Writes.{slices_written}

more : (size i : ℕ) → size * i + size ≡ size * (i + 1)
more size i = sym (mul-add size i 1 ∙ ap (λ (k : ℕ). size * i + k) (mul-one size))

pub one_written : (d bs out out' : List ℕ) (start size count i : ℕ) → i < count → start + size * count ≤ length bs → start + size * count ≤ length d
    → out ≡ written d start (slice bs start (size * i)) → out' ≡ written out (start + size * i) (slice bs (start + size * i) size)
    → out' ≡ written d start (slice bs start (size * (i + 1)))
one_written d bs out out' start size count i l s r e f =
    let m : size * (i + 1) ≤ size * count = mul-le-mul_left size (omega arith) in
    let n = more size i in
    f
    ∙ ap (λ (z : List ℕ). written z (start + size * i) (slice bs (start + size * i) size)) e
    ∙ slices_written d bs start (start + size * i) (size * i) size (omega arith) (omega arith) refl
    ∙ ap (λ (k : ℕ). written d start (slice bs start k)) n
