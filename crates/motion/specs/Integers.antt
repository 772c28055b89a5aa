-- Products of integers, over their parts: z is up z − down z.
use Rattle.std.specs.Prelude.{◌≡◌, ℕ, ◌+◌, ◌*◌, ℤ, ◌+ℤ◌, ◌*ℤ◌, neg_ℤ}
use Rattle.std.proofs.Common.{ap, sym, ◌∙◌, arith, mul-add, add-mul, mul_assoc}
use borrow.Author.Differences.{up, down, same_in, sum_is_lem, product_is}
use Rattle.std.proofs.Math.IntN.{*ℤ_comm}
use Rattle.std.proofs.lemmas.Int.{ints}

spread : (k a b c : ℕ) → k * (a + b + c) ≡ k * a + k * b + k * c
spread k a b c = mul-add k (a + b) c ∙ ap (λ (n : ℕ). n + k * c) (mul-add k a b)

pub mul-sum : (a b c : ℤ) → a *ℤ (b +ℤ c) ≡ a *ℤ b +ℤ a *ℤ c
mul-sum a b c = same_in _ _ (omega (arith, product_is a (b +ℤ c), product_is a b, product_is a c, sum_is_lem (a *ℤ b) (a *ℤ c), by (up a), by (down a)))
  where
    by : (k : ℕ) → k * up (b +ℤ c) + k * down b + k * down c ≡ k * down (b +ℤ c) + k * up b + k * up c
    by k = sym (spread k (up (b +ℤ c)) (down b) (down c)) ∙ ap (λ (n : ℕ). k * n) (sum_is_lem b c) ∙ spread k (down (b +ℤ c)) (up b) (up c)

pub mul-neg : (a b : ℤ) → a *ℤ neg_ℤ b ≡ neg_ℤ (a *ℤ b)
mul-neg a b = grind (arith, ints)

pub sum-mul : (a b c : ℤ) → (a +ℤ b) *ℤ c ≡ a *ℤ c +ℤ b *ℤ c
sum-mul a b c = *ℤ_comm (a +ℤ b) c ∙ mul-sum c a b ∙ ap (λ (z : ℤ). z +ℤ c *ℤ b) (*ℤ_comm c a) ∙ ap (λ (z : ℤ). a *ℤ c +ℤ z) (*ℤ_comm c b)

pub neg-mul : (a b : ℤ) → neg_ℤ a *ℤ b ≡ neg_ℤ (a *ℤ b)
neg-mul a b = grind (arith, ints)

pub mul-mul : (a b c : ℤ) → (a *ℤ b) *ℤ c ≡ a *ℤ (b *ℤ c)
mul-mul a b c = same_in _ _ (omega (arith, product_is (a *ℤ b) c, product_is a (b *ℤ c), left (up c), left (down c), right (up a), right (down a)))
  where
    outer : (k l m n t : ℕ) → (k * l + m * n) * t ≡ k * (l * t) + m * (n * t)
    outer k l m n t = add-mul (k * l) (m * n) t ∙ ap (λ (z : ℕ). z + m * n * t) (mul_assoc k l t) ∙ ap (λ (z : ℕ). k * (l * t) + z) (mul_assoc m n t)

    left : (t : ℕ) → (up (a *ℤ b) * t ≡ up a * (up b * t) + down a * (down b * t)) × (down (a *ℤ b) * t ≡ up a * (down b * t) + down a * (up b * t))
    left t = (ap (λ (n : ℕ). n * t) (product_is a b).0 ∙ outer (up a) (up b) (down a) (down b) t, ap (λ (n : ℕ). n * t) (product_is a b).1 ∙ outer (up a) (down b) (down a) (up b) t)

    right : (t : ℕ) → (t * up (b *ℤ c) ≡ t * (up b * up c) + t * (down b * down c)) × (t * down (b *ℤ c) ≡ t * (up b * down c) + t * (down b * up c))
    right t = (ap (λ (n : ℕ). t * n) (product_is b c).0 ∙ mul-add t (up b * up c) (down b * down c), ap (λ (n : ℕ). t * n) (product_is b c).1 ∙ mul-add t (up b * down c) (down b * up c))
