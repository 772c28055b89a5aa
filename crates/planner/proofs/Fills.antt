-- Memory filled from its front on, cell by cell.
use Rattle.std.proofs.Common.{◌≡◌, ℕ, ◌+◌, ◌<◌, ◌≤◌, List, [], ◌∷◌, ◌++◌, length, get_or, take, drop, set, sym, ap, ◌∙◌, arith, length-append, length-drop}
use mathlib.Core.List.{map-append}
use Rattle.std.proofs.lemmas.List.{take_more, take_more_set, take_at, take_all, drop_at, length-take-le}
use Rattle.grade.specs.declared.cell.Cell.{Cell}
use Rattle.grade.specs.Ranks.{ranked, ranked_all}
use Rattle.planner.specs.Starts.{no_cell, Filled}

module _ {G : Type 0} (rank : G → ℕ) (cells : List (Cell G)) (sheet : List (Cell ℕ)) (i : ℕ) (v : Cell G) where
  -- one cell more
  pub filled_more : i < length cells → i < length sheet → ranked_all rank (take i cells) ≡ take i sheet → ranked rank v ≡ get_or sheet i no_cell
      → ranked_all rank (take (i + 1) (set cells i v)) ≡ take (i + 1) sheet
  filled_more l m front is =
      ap (ranked_all rank) (take_more_set cells i v l)
      ∙ map-append (ranked rank) (take i cells) (v ∷ [])
      ∙ ap (λ (x : List (Cell ℕ)). x ++ (ranked rank v ∷ [])) front
      ∙ ap (λ (x : Cell ℕ). take i sheet ++ (x ∷ [])) is
      ∙ sym (take_more sheet i no_cell m)

-- a place among the first cells is that of a sample; c counts them as the header does, and k as the path
pub in_front : {G : Type 0} (cells : List G) (c n k i : ℕ) → c ≡ n → n ≡ k → n ≤ length cells → i < length (take c cells) → i < k
in_front cells c n k i c_is n-is room h = omega (arith, length-take-le c cells (omega arith))

-- all of them, with the rest of the memory behind them; n is how many there are, and the loop came to i
pub filled : {G : Type 0} (rank : G → ℕ) (sheet : List (Cell ℕ)) (cells front : List (Cell G)) (n i : ℕ) → n ≤ length cells → length sheet ≡ n → length front ≡ length (take n cells) → length (take n cells) ≤ i
    → ranked_all rank (take i front) ≡ take i sheet → Filled rank sheet cells (front ++ drop n cells)
filled rank sheet cells front n i room count long all so_far =
    let k : length (take n cells) ≡ n = length-take-le n cells room in
    let l : length front ≡ length sheet = omega arith in
    let m : length front ≡ n = omega arith in
    record {
      front = ap (ranked_all rank) (take_at front (drop n cells) (length sheet) l ∙ sym (take_all i front (omega arith))) ∙ so_far ∙ take_all i sheet (omega arith);
      past = drop_at front (drop n cells) (length sheet) l ∙ ap (λ x. drop x cells) (sym count);
      long = length-append front (drop n cells) ∙ ap (λ x. x + length (drop n cells)) m ∙ omega (arith, length-drop n cells);
    }
