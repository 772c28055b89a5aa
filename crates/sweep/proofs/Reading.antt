-- A cell that the code reads and writes, as ranks.
use Rattle.std.proofs.Common.{◌≡◌, ℕ, ◌<◌, ◌≤◌, List, length, get_or, take, set, ℤ, sym, refl, ap, ◌∙◌}
use Rattle.std.proofs.lemmas.List.{get_or-map, map-set, get_or-take, length-take-le, set-get_or}
use Rattle.grade.specs.declared.cell.Cell.{Cell}
use Rattle.grade.specs.Ranks.{ranked, ranked_all, ranks}
use Rattle.grade.proofs.Ranking.{values_ranked}
use Rattle.limit.specs.Numbers.{Number}
use Rattle.runs.specs.declared.finding.Finding.{Finding}
use Rattle.runs.specs.declared.finding.Finding.TheVariants.{Keeps, Lowers, Clashes}
use Rattle.runs.specs.Sheets.{Sheet, blank, cell}
use Rattle.runs.specs.Evaluations.{found}
use Rattle.sweep.specs.Visits.{fallen, lowered, Visited}

-- a cell that fell, in its place
lowered_is : (f : Finding) (i : ℕ) (s : Sheet) → set s i (fallen f (cell s i)) ≡ lowered f i s
lowered_is Keeps i s = set-get_or s i blank
lowered_is (Lowers r) i s = refl
lowered_is Clashes i s = set-get_or s i blank

module _ {G : Type 0} (rank : G → ℕ) (cells : List (Cell G)) (i : ℕ) where
  pub cell_ranked : (d : Cell G) → i < length cells → cell (ranked_all rank cells) i ≡ ranked rank (get_or cells i d)
  cell_ranked d h = get_or-map (ranked rank) cells i d blank h

  -- a value read in the front of the cells
  pub front_value : (n : ℕ) (d : Cell G) → i < n → n ≤ length cells → rank (get_or cells i d).value ≡ (cell (ranked_all rank (take n cells)) i).value
  front_value n d h fit =
      let l : i < length (take n cells) = rw (length-take-le n cells fit) h in
      ap (λ c. rank c.value) (sym (get_or-take n cells i d h)) ∙ ap (λ c. c.value) (sym (get_or-map (ranked rank) (take n cells) i d blank l))

  -- x is the cell that the code read
  pub cell_read : (x : Cell G) → x ≡ get_or cells i x → i < length cells → cell (ranked_all rank cells) i ≡ ranked rank x
  cell_read x read h = cell_ranked x h ∙ ap (ranked rank) (sym read)

  -- a cell that was changed in its place, as f changes its ranks
  pub changed : (d y : Cell G) (f : Cell ℕ → Cell ℕ) → i < length cells → ranked rank y ≡ f (ranked rank (get_or cells i d))
      → ranked_all rank (set cells i y) ≡ set (ranked_all rank cells) i (f (cell (ranked_all rank cells) i))
  changed d y f h e = map-set (ranked rank) cells i y ∙ ap (set (ranked_all rank cells) i) (e ∙ ap f (sym (cell_ranked d h)))

  -- a limit of this number gave z at the sample, whose cell became y
  pub visits : (number : Number) (d y : Cell G) (z : ℤ) (r : Finding) → i < length cells → z ≡ number (ranks rank cells) i
      → r ≡ found (ranked rank (get_or cells i d)) z → ranked rank y ≡ fallen r (ranked rank (get_or cells i d)) → Visited rank number cells (set cells i y) i r
  visits number d y z r h gave finding fell = record {
    finding = finding ∙ ap (λ c. found c z) (sym (cell_ranked d h)) ∙ ap (found (cell (ranked_all rank cells) i)) (gave ∙ ap (λ p. number p i) (sym (values_ranked rank cells)));
    sheet = changed d y (fallen r) h fell ∙ lowered_is r i (ranked_all rank cells);
  }
