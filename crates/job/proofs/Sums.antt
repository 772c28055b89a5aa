-- The allowance that suffices: the sums of a sheet's values, and that it ends the work.
use Rattle.std.proofs.Common.{◌≡◌, ℕ, ◌+◌, ◌*◌, ◌≤◌, List, [], ◌∷◌, ◌++◌, sum_by, sum, sym, refl, ap, ◌∙◌, subst, arith}
use Rattle.std.proofs.lemmas.List.Sums.{sum-map}
use Rattle.grade.specs.declared.cell.Cell.{Cell}
use Rattle.grade.specs.Ranks.{ranked_all}
use Rattle.grade.proofs.Ranking.{values_ranked}
use Rattle.runs.specs.declared.call.Call.TheVariants.{Advance}
use Rattle.runs.specs.declared.stage.Make.TheVariants.{Classes, Speeds}
use Rattle.runs.specs.Sheets.{values}
use Rattle.runs.specs.Calls.{granted}
use Rattle.runs.specs.Keeping.{own}
use Rattle.runs.specs.Law.{enough}
use Rattle.runs.proofs.Law.{runs_lawful}
use Rattle.job.specs.Holding.{Held, count, whole_of, setting_of, room}
use Rattle.job.specs.Allowing.{Suffices}
use Rattle.job.proofs.Lawful.{lawful_setting}

sum-values : {G : Type 0} (rank : G → ℕ) (cells : List (Cell G)) → sum (values (ranked_all rank cells)) ≡ sum_by (λ c. rank c.value) cells
sum-values rank cells = ap sum (values_ranked rank cells) ∙ sum-map (λ c. rank c.value) cells

-- a sum as the code makes it
pub summed : {G : Type 0} (rank : G → ℕ) (cells : List (Cell G)) (r : ℕ) → r ≡ sum_by (λ c. rank c.value) cells → r ≡ sum (values (ranked_all rank cells))
summed rank cells r e = e ∙ sym (sum-values rank cells)

-- the product as the code makes it
pub product_is : (n a b c s : ℕ) → a ≡ c → b ≡ s → n * (a + b + 3) ≡ n * (c + s + 3)
product_is n a b c s a_is b_is = ap (λ x. n * (x + b + 3)) a_is ∙ ap (λ x. n * (c + x + 3)) b_is

pub suffices : (h : Held) (k : ℕ) → room h ≡ granted → k ≡ count h * (sum (own (whole_of h).sheets Classes) + sum (own (whole_of h).sheets Speeds) + 3) → Suffices h k
suffices h k roomy is = record {
  roomy = roomy;
  is = is;
  ends = λ a b a_law b_law s earlier led allowance most.
      let l = h.job.samples.least in
      (runs_lawful (setting_of a b h) (lawful_setting (count h) a b (omega arith) a_law b_law) s led.start (earlier ++ (Advance allowance ∷ []))).ends earlier allowance refl
      (subst (λ w. enough (setting_of a b h) w.sheets ≤ allowance) led.job (omega arith));
}
