-- Numbers of limits: the smaller of two, and one that stands only where a test is true, with the top elsewhere.
use Rattle.std.specs.Prelude.{◌≡◌, ℕ, ◌≤◌, Bool, true, false, cond, ◌↔◌, ℤ, pos, negsuc, ◌≤ℤ◌, Some, None, Option, refl}
use Rattle.std.proofs.Common.{arith}
use Rattle.std.specs.Int.{int_min}
use Rattle.std.proofs.lemmas.Int.{ints, clamps}
use Rattle.std.proofs.lemmas.Bool.{false≢true}
use Rattle.grade.specs.Profiles.{Profile, rank}
use Rattle.limit.specs.Numbers.{Number, number_of, both, Keeps, Greatest}

pub min_mono : (a b c d : ℤ) → a ≤ℤ c → b ≤ℤ d → int_min a b ≤ℤ int_min c d
min_mono a b c d h k = omega (arith, ints, clamps)

pub min_low : (x a b : ℤ) → x ≤ℤ a → x ≤ℤ b → x ≤ℤ int_min a b
min_low x a b h k = omega (arith, ints, clamps)

pub min_high : (x a b : ℤ) → a ≤ℤ x → int_min a b ≤ℤ x
min_high x a b h = omega (arith, ints, clamps)

pub under_min : (x a b : ℤ) → (x ≤ℤ int_min a b) ↔ ((x ≤ℤ a) × (x ≤ℤ b))
under_min x a b = ((λ h. (omega (arith, ints, clamps), omega (arith, ints, clamps))), λ h. min_low x a b h.0 h.1)

pub where_low : (t : Bool) (z : ℤ) (top : ℕ) → negsuc 0 ≤ℤ z → negsuc 0 ≤ℤ cond t z (pos top)
where_low true z top h = h
where_low false z top h = omega (arith, ints)

pub where_high : (t : Bool) (z : ℤ) (top : ℕ) → z ≤ℤ pos top → cond t z (pos top) ≤ℤ pos top
where_high true z top h = h
where_high false z top h = omega (arith, ints)

pub where_mono : (t : Bool) (y z : ℤ) (top : ℕ) → y ≤ℤ z → cond t y (pos top) ≤ℤ cond t z (pos top)
where_mono true y z top h = h
where_mono false y z top h = omega (arith, ints)

pub under_where : (t : Bool) (z : ℤ) (top x : ℕ) → x ≤ top → (pos x ≤ℤ cond t z (pos top)) ↔ (t ≡ true → pos x ≤ℤ z)
under_where true z top x h = ((λ k _. k), λ k. k refl)
under_where false z top x h = ((λ k e. absurd (false≢true e)), λ k. omega (arith, ints))

pub keeps_both : (f g : Number) (p : Profile) → Keeps (both f g) p ↔ (Keeps f p × Keeps g p)
keeps_both f g p = (
  (λ k. ((λ i l. ((under_min (pos (rank p i)) (f p i) (g p i)).0 (k i l)).0), λ i l. ((under_min (pos (rank p i)) (f p i) (g p i)).0 (k i l)).1)),
  λ k i l. (under_min (pos (rank p i)) (f p i) (g p i)).1 (k.0 i l, k.1 i l),
)

-- an answer whose number is z, where the ranks that fit are those up to z
pub greatest_by : {G : Type 0} (rank_of : G → ℕ) (top : ℕ) → ((x : G) → rank_of x ≤ top) → (Fits : ℕ → Type 0) (z : ℤ)
    → ((g : ℕ) → g ≤ top → (pos g ≤ℤ z) ↔ Fits g) → (r : Option G) → number_of rank_of r ≡ z → Greatest rank_of top Fits r
greatest_by rank_of top within Fits z fits None e = λ g l f. let h = (fits g l).1 f in omega (arith, ints)
greatest_by rank_of top within Fits z fits (Some x) e =
    ((fits (rank_of x) (within x)).0 (omega (arith, ints)), λ g l f. let h = (fits g l).1 f in omega (arith, ints))
