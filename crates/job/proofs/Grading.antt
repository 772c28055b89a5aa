-- Cells from their own ranks are the same cells.
use Rattle.std.proofs.Common.{◌≡◌, ℕ, ◌≤◌, min, List, [], ◌∷◌, refl, ap, ◌∙◌}
use Rattle.std.proofs.Math.Nat.{min-eq_left}
use native.Mathlib.Bridge.{le_prop}
use mathlib.Core.HLevel.{is_prop→PathP}
use Rattle.grade.specs.declared.cell.Cell.{Cell}
use Rattle.grade.specs.declared.class.Class.{Class}
use Rattle.grade.specs.declared.speed.Speed.{Speed}
use Rattle.grade.specs.Ranks.{class_rank, speed_rank, ranked_all}
use Rattle.grade.specs.Tops.{class_top, speed_top}
use Rattle.job.specs.Grades.{class_of, speed_of, cells_of}

pub class_is : (x : Class) → class_of (class_rank x) ≡ x
class_is x =
    let e : min x.value class_top ≡ x.value = min-eq_left x.ok in
    λ i. record { value = e i; ok = is_prop→PathP (λ j. e j ≤ class_top) (λ j. le_prop) (class_of x.value).ok x.ok i }

pub speed_is : (x : Speed) → speed_of (speed_rank x) ≡ x
speed_is x =
    let e : min x.value speed_top ≡ x.value = min-eq_left x.ok in
    λ i. record { value = e i; ok = is_prop→PathP (λ j. e j ≤ speed_top) (λ j. le_prop) (speed_of x.value).ok x.ok i }

module _ {G : Type 0} (rank : G → ℕ) (of : ℕ → G) (same : (x : G) → of (rank x) ≡ x) where
  again : (v c f : G) → ◌≡◌ {A = Cell G} (record { value = of (rank v); cap = of (rank c); floor = of (rank f) }) (record { value = v; cap = c; floor = f })
  again v c f = λ i. record { value = same v i; cap = same c i; floor = same f i }

  pub cells_are : (cells : List (Cell G)) → cells_of of (ranked_all rank cells) ≡ cells
  cells_are [] = refl
  cells_are (c ∷ cs) = ap (λ l. record { value = of (rank c.value); cap = of (rank c.cap); floor = of (rank c.floor) } ∷ l) (cells_are cs) ∙ ap (λ x. x ∷ cs) (again c.value c.cap c.floor)
