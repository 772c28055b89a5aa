-- Memory filled from its front on, cell by cell.
use Rattle.std.proofs.Common.{◌≡◌, ℕ, ◌+◌, ◌<◌, ◌≤◌, List, [], ◌∷◌, ◌++◌, length, get_or, take, drop, set, sym, ap, ◌∙◌, arith}
use Rattle.std.proofs.lemmas.List.{take_more, take_more_set, take_all, length-take-le}
use Rattle.prepared.specs.Lists.{begun_with, Begins}

module _ {A : Type 0} (xs cells : List A) (i : ℕ) where
  -- one cell more
  pub filled_more : (d v : A) → i < length cells → i < length xs → take i cells ≡ take i xs → v ≡ get_or xs i d → take (i + 1) (set cells i v) ≡ take (i + 1) xs
  filled_more d v l m front is =
      take_more_set cells i v l ∙ ap (λ (ys : List A). ys ++ (v ∷ [])) front ∙ ap (λ (x : A). take i xs ++ (x ∷ [])) is ∙ sym (take_more xs i d m)

  -- all of them, with the rest of the memory behind them; n is how many there are, and the loop came to i
  pub filled : (front : List A) (n : ℕ) → n ≤ length cells → length xs ≡ n → length front ≡ length (take n cells) → length (take n cells) ≤ i → take i front ≡ take i xs → front ++ drop n cells ≡ begun_with xs cells
  filled front n room count long all so_far =
      let k : length (take n cells) ≡ n = length-take-le n cells room in
      let is : front ≡ xs = sym (take_all i front (omega arith)) ∙ so_far ∙ take_all i xs (omega arith) in
      ap (λ (ys : List A). ys ++ drop n cells) is ∙ ap (λ (m : ℕ). xs ++ drop m cells) (sym count)

-- a place among the first cells is that of a record; c counts them as the header does
pub in_front : {A : Type 0} (cells : List A) (c i : ℕ) → c ≤ length cells → i < length (take c cells) → i < c
in_front cells c i room h = omega (arith, length-take-le c cells room)

-- the first cells of memory that begins with a list; n is how many there are
pub front_is : {A : Type 0} (xs cells : List A) (n : ℕ) → length xs ≡ n → Begins xs cells → take n cells ≡ xs
front_is xs cells n count b = ap (λ (k : ℕ). take k cells) (sym count) ∙ b

pub front_long : {A : Type 0} (xs cells : List A) (n : ℕ) → length xs ≡ n → Begins xs cells → n ≡ length (take n cells)
front_long xs cells n count b = sym (ap length (front_is xs cells n count b) ∙ count)
