-- An evaluation, with the end of the sweep and the pour that may follow, keeps the invariant.
use Rattle.std.proofs.Common.{◌≡◌, ℕ, zero, suc, ◌+◌, ◌<◌, ◌≤◌, min, true, false, cond, ltb, ℤ, pos, ◌≤ℤ◌, ◌<ℤ◌, sym, subst, ⊎_elim, le_trans, le_of_lt, arith}
use borrow.Author.Differences.{ints}
use Rattle.std.proofs.lemmas.Bool.{cond_both, ltb-true, ltb-false}
use Rattle.grade.specs.declared.cell.Cell.{Cell}
use Rattle.runs.specs.declared.stage.Direction.TheVariants.{Rising}
use Rattle.runs.specs.declared.stage.Make.{Make}
use Rattle.runs.specs.declared.stage.Make.TheVariants.{Classes, Speeds}
use Rattle.runs.specs.declared.stage.Stage.TheVariants.{Working, Impossible}
use Rattle.runs.specs.declared.stage.Sweep.{Sweep}
use Rattle.grade.specs.Profiles.{rank}
use Rattle.limit.specs.Numbers.{KeptAt}
use Rattle.runs.specs.Settings.{Setting, SettingLaw}
use Rattle.runs.specs.Sheets.{Sheets, cell, values, sheet, put, with_value}
use Rattle.runs.specs.Jobs.{fresh, marking, onward, turned, upcoming, job}
use Rattle.runs.specs.Evaluations.{finding, followed, poured, finished, continued, evaluated}
use Rattle.runs.specs.InForce.{Bounds}
use Rattle.runs.specs.Keeping.{Pair, KeepsAll, own}
use Rattle.runs.proofs.Findings.{found_cases}
use Rattle.runs.proofs.Cells.{rank_values, set_all}
use Rattle.runs.proofs.Standing.{Fitting, fitting_holds, Hopeless, Limited, Ready, Swept, Standing, Stands}
use Rattle.runs.proofs.Lowering.{lowered_fits, under_number, ready_lowered}
use Rattle.runs.proofs.Visits.{upcoming_below, visited_more, visited_none, visited_all, begun_swept, marked_swept}

module _ (σ : Setting) (law : SettingLaw σ) (b : Bounds) where
  -- a speed of a pair that keeps all is at most the entry of the present class
  under_entry : (S : Sheets) → Fitting σ b S → (P : Pair) → KeepsAll σ b P → (i : ℕ) → i < σ.samples
      → rank (P Speeds) i ≤ σ.table (cell S.classes i).value
  under_entry S f P k i h =
      let c = f.each Classes i h in
      le_trans (k.tabled i h) (law.rises (rank (P Classes) i) (cell S.classes i).value (c.covers P k) (le_trans c.capped c.within))

  poured_stands : (k i : ℕ) (S : Sheets) → i + k ≡ σ.samples → Fitting σ b S → Limited σ Classes (own S)
      → ((x : ℕ) → x < i → (cell S.speeds x).value ≤ σ.table (cell S.classes x).value)
      → Stands σ b (poured σ.table k i S)
  unfolding poured
  poured_stands zero i S e f lim tab =
      (f, ((lim, λ x h. simp rank_values (tab x (omega arith))), law.sampled, begun_swept σ Speeds Rising (own S)))
  poured_stands (suc k) i S e f lim tab =
      cond_both (ltb entry c.floor) (job (Impossible i) fresh S) (poured σ.table k (suc i) S') (Stands σ b) (λ t. (stops t, h, fitting_holds σ b S f))
      (λ t. poured_stands k (suc i) S' (omega arith) (fits t) lim tabled)
    where
      c : Cell ℕ
      c = cell S.speeds i

      entry : ℕ
      entry = σ.table (cell S.classes i).value

      S' : Sheets
      S' = put Speeds i (with_value (min c.value entry) c) S

      h : i < σ.samples
      h = omega arith

      stops : ltb entry c.floor ≡ true → Hopeless σ b
      stops t P kp =
          let low = ltb-true entry c.floor t in
          let is = (f.each Speeds i h).floor_is in
          let over = kp.floored Speeds i h in
          let under = under_entry S f P kp i h in
          omega arith

      fits : ltb entry c.floor ≡ false → Fitting σ b S'
      fits t =
          let low = ltb-false entry c.floor t in
          let is = f.each Speeds i h in
          lowered_fits σ b S f Speeds i (min c.value entry) h (omega arith) (omega arith)
          (λ P kp. let under = under_entry S f P kp i h in let cover = is.covers P kp in omega arith)

      tabled : (x : ℕ) → x < suc i → (cell S'.speeds x).value ≤ σ.table (cell S.classes x).value
      tabled x = set_all S.speeds i (with_value (min c.value entry) c) (λ y d. y < suc i → d.value ≤ σ.table (cell S.classes y).value) (rw (f.long Speeds) h)
          (λ _. omega arith) (λ y ne l. tab y (omega arith)) x

  finished_stands : (m : Make) (S : Sheets) → Fitting σ b S → Ready σ m (own S) → Limited σ m (own S) → Stands σ b (finished σ m S)
  finished_stands Classes S f ready lim = poured_stands σ.samples 0 S (omega arith) f lim (λ x h. absurd (visited_none 1 Rising x (omega arith) h))
  finished_stands Speeds S f ready lim = (f, (ready, lim))

  continued_stands : (m : Make) (w : Sweep) (S : Sheets) → Fitting σ b S → Ready σ m (own S) → Swept σ m w (own S) → Stands σ b (continued σ m w S)
  unfolding continued
  continued_stands m w S f ready swept =
      cond_both (ltb w.visited σ.samples) (job (Working m) w S) (cond w.marked (job (Working m) (turned w) S) (finished σ m S)) (Stands σ b)
      (λ e. (f, (ready, ltb-true w.visited σ.samples e, swept)))
      (λ e. cond_both w.marked (job (Working m) (turned w) S) (finished σ m S) (Stands σ b)
      (λ _. (f, (ready, law.sampled, begun_swept σ m (turned w).direction (own S))))
      (λ t. finished_stands m S f ready (λ x h. swept t x h (visited_all σ.samples w.direction w.visited (ltb-false w.visited σ.samples e) x h))))

  pub evaluated_stands : (m : Make) (w : Sweep) (S : Sheets) → Standing σ b (Working m) w S → Stands σ b (evaluated σ m w S)
  unfolding evaluated finding followed
  evaluated_stands m w S (f, (ready, below, swept)) =
      found_cases c z (λ o. Stands σ b (followed σ m i o w S)) (λ l. (clash l, h, fitting_holds σ b S f)) lower keep
    where
      i : ℕ
      i = upcoming σ.samples w

      c : Cell ℕ
      c = cell (sheet S m) i

      z : ℤ
      z = σ.number m (values (sheet S m)) i

      h : i < σ.samples
      h = upcoming_below σ.samples w.direction w.visited below

      clash : z <ℤ pos c.floor → Hopeless σ b
      clash l P k =
          let is = (f.each m i h).floor_is in
          let over = k.floored m i h in
          let under = under_number σ b S f law P k m i h in
          omega (arith, ints)

      lower : (r : ℕ) → z ≡ pos r → c.floor ≤ r → r < c.value → Stands σ b (continued σ m (marking (onward w)) (put m i (with_value r c) S))
      lower r e low high =
          continued_stands m (marking (onward w)) (put m i (with_value r c) S)
          (lowered_fits σ b S f m i r h low (le_of_lt high)
          (λ P k. let under = under_number σ b S f law P k m i h in omega (arith, ints)))
          (ready_lowered σ m i (with_value r c) S (rw (f.long m) h) (le_of_lt high) ready)
          (marked_swept σ m (onward w) (own (put m i (with_value r c) S)))

      keep : pos c.value ≤ℤ z → Stands σ b (continued σ m (onward w) S)
      keep l =
          continued_stands m (onward w) S f ready
          (λ t x hx seen. ⊎_elim (λ before. swept t x hx before) (λ e. subst (KeptAt (σ.number m) (values (sheet S m))) (sym e) (rw rank_values l))
          (visited_more σ.samples w.direction w.visited below x seen))
