-- Cells read as ranks.
use Rattle.std.proofs.Common.{◌≡◌, ℕ, zero, suc, ◌<◌, ◌≤◌, List, [], ◌∷◌, map, length, refl, ap, ⊎_elim, arith}
use Rattle.std.proofs.lemmas.Bool.{cases_lt}
use Rattle.std.proofs.lemmas.List.{get_or_past}
use Rattle.grade.specs.declared.cell.Cell.{Cell}
use Rattle.grade.specs.Profiles.{Profile, Within, AtMost, rank}
use Rattle.grade.specs.Ranks.{ranked_all, ranks}

module _ {G : Type 0} (rank_of : G → ℕ) where
  -- the ranks of grades lie within the top of their make
  pub ranks_within : (top : ℕ) → ((x : G) → rank_of x ≤ top) → (cells : List (Cell G)) → Within top (ranks rank_of cells)
  ranks_within top within [] i h = absurd (omega arith)
  ranks_within top within (c ∷ cs) zero h = within c.value
  ranks_within top within (c ∷ cs) (suc i) h = ranks_within top within cs i (omega arith)

  -- the values of ranked cells are the profile
  pub values_ranked : (cells : List (Cell G)) → map (λ (c : Cell ℕ). c.value) (ranked_all rank_of cells) ≡ ranks rank_of cells
  values_ranked [] = refl
  values_ranked (c ∷ cs) = ap (λ l. rank_of c.value ∷ l) (values_ranked cs)

-- of two profiles of one length, past whose ends the rank is 0
pub at_most_everywhere : (p q : Profile) → length p ≡ length q → AtMost p q → (k : ℕ) → rank p k ≤ rank q k
at_most_everywhere p q len le k = ⊎_elim (λ (h : k < length p). le k h) (λ (h : length p ≤ k). let e = get_or_past p k 0 h in omega arith) (cases_lt k (length p))
