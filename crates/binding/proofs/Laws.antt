-- The laws of binding constraints and clashes.
use Rattle.std.proofs.Common.{◌≡◌, ℕ, ◌+◌, ◌<◌, ◌≤◌, true, false, ltb, ◌⊎◌, List, [], ◌∷◌, length, ℤ, pos, ◌≤ℤ◌, ◌<ℤ◌, Some, None, Option, sym, refl, ap, ◌∙◌, ⊎_elim, arith}
use Rattle.std.specs.Int.{int_min}
use Rattle.std.specs.Option.{option_or}
use Rattle.std.proofs.lemmas.Int.{ints, clamps, by_lt_z}
use Rattle.std.proofs.lemmas.Bool.{cond-true, cond-false, lt-ltb, le-ltb, ltb-true, and_parts, and_from, and_left, and_right}
use Rattle.std.proofs.lemmas.List.{length-map}
use Rattle.grade.specs.declared.cell.Cell.{Cell}
use Rattle.grade.specs.declared.class.Class.{Class}
use Rattle.grade.specs.declared.speed.Speed.{Speed}
use Rattle.grade.specs.Profiles.{Within}
use Rattle.grade.specs.Ranks.{class_rank, speed_rank, ranked, ranked_all}
use Rattle.grade.specs.Tops.{class_top, speed_top}
use Rattle.torque.specs.Rows.{row_at}
use Rattle.motion.specs.Torques.{allows, least}
use Rattle.frame.specs.Paths.{Path}
use Rattle.sources.specs.Sources.{class_steps, speed_steps, rows_of, class_number, speed_number}
use Rattle.runs.specs.declared.stage.Make.{Make}
use Rattle.runs.specs.declared.stage.Make.TheVariants.{Classes, Speeds}
use Rattle.runs.specs.Sheets.{Sheets, sheet, cell}
use Rattle.runs.specs.Keeping.{own, bounds_in}
use Rattle.runs.specs.Settings.{Setting}
use Rattle.runs.proofs.Cells.{rank_values}
use Rattle.job.specs.Table.{entry}
use Rattle.job.specs.Whole.{sheets_of, setting, top_of}
use Rattle.binding.specs.declared.bound.Bound.{Bound}
use Rattle.binding.specs.declared.bound.Bound.TheVariants.{Cap, Class as ByClass, RampBefore, RampAfter, Average, TorqueRow}
use Rattle.binding.specs.declared.bound.Clash.{Clash}
use Rattle.binding.specs.declared.bound.Found.{Found}
use Rattle.binding.specs.declared.question.Question.TheVariants.{Reaches}
use Rattle.binding.specs.Binding.{inside, bound_in_of, bound_of, binding, HoldGreatest, Binds}
use Rattle.binding.specs.Bounds.{granted, allowed, rows_from, bounds_of, least_of, number_on, together}
use Rattle.binding.specs.Clashing.{clash_in_of, clash_of, clashing, Clashes}
use Rattle.binding.specs.Questions.{first}
use Rattle.binding.proofs.Cells.{CellWithin, cell_within}
use Rattle.binding.proofs.Leasts.{or_parts, reached, above_floor, least_rows}
use Rattle.binding.proofs.Limits.{path_lawful}
use Rattle.binding.proofs.Raising.{Granting, no_room}
use Rattle.binding.proofs.Sides.{ramp_sides}

three : (c t b a : ℤ) → int_min c (int_min b (int_min a t)) ≡ int_min c (int_min t (int_min b a))
three c t b a = omega (arith, ints, clamps)

six : (c g b a m s t : ℤ) → s ≡ t → int_min c (int_min g (int_min b (int_min a (int_min m s)))) ≡ int_min c (int_min g (int_min (int_min b a) (int_min m t)))
six c g b a m s t e =
    let grouped : (x y z : ℤ) → int_min x (int_min y z) ≡ int_min (int_min x y) z = λ x y z. omega (arith, ints, clamps) in
    ap (λ z. int_min c (int_min g (int_min b (int_min a (int_min m z))))) e ∙ ap (λ z. int_min c (int_min g z)) (grouped b a (int_min m t))

pub least_is : (path : Path) (S : Sheets) (m : Make) (i : ℕ) → least_of (top_of m) (allowed path S m i) (bounds_of path m) ≡ together path S m i
least_is path S Classes i =
    let f = allowed path S Classes i in
    three (f Cap) (pos class_top) (f RampBefore) (f RampAfter)
    ∙ ap (λ (z : ℤ). int_min (f Cap) (int_min (pos class_top) z)) (sym (ramp_sides class_top (class_steps path) (own S Classes) i))
least_is path S Speeds i =
    let f = allowed path S Speeds i in
    let g = allows path.header.spacing (own S Speeds) i in
    let row : (k : ℕ) → f (TorqueRow (k + 0)) ≡ g (row_at (rows_of path) k) = λ k. let e : k + 0 ≡ k = omega arith in ap (λ j. g (row_at (rows_of path) j)) e in
    six (f Cap) (f ByClass) (f RampBefore) (f RampAfter) (f Average) (least_of speed_top f (rows_from 0 (length (rows_of path)))) (least g (rows_of path)) (least_rows f g (rows_of path) 0 row)
    ∙ ap (λ (z : ℤ). int_min (f Cap) (int_min (f ByClass) (int_min z (int_min (f Average) (least g (rows_of path)))))) (sym (ramp_sides speed_top (speed_steps path) (own S Speeds) i))

no_bound : (o : Option Found) → bound_in_of o ≡ None → o ≡ None
no_bound None e = refl
no_bound (Some f) e = absurd (let z : ◌≡◌ {A = ℕ} 0 1 = cc in omega arith)

no_clash : (m : Make) (x : ℕ) (o : Option Found) → clash_in_of m x o ≡ None → o ≡ None
no_clash m x None e = refl
no_clash m x (Some f) e = absurd (let z : ◌≡◌ {A = ℕ} 0 1 = cc in omega arith)

-- a value below the smallest of three leaves room for one more under each
leaves : (v c g : ℕ) (n : ℤ) → pos v <ℤ int_min (pos c) (int_min (pos g) n) → (v + 1 ≤ c) × (v + 1 ≤ g) × (pos (v + 1) ≤ℤ n)
leaves v c g n h = (omega (arith, ints, clamps), omega (arith, ints, clamps), omega (arith, ints, clamps))

reaching : (v c g : ℕ) (n : ℤ) → v ≤ c → v ≤ g → pos v ≤ℤ n → int_min (pos c) (int_min (pos g) n) ≤ℤ pos v → pos v ≡ int_min (pos c) (int_min (pos g) n)
reaching v c g n a b d h = omega (arith, ints, clamps)

module _ (path : Path) (classes : List (Cell Class)) (speeds : List (Cell Speed)) (i : ℕ) where
  abbrev S : Sheets
  S = sheets_of classes speeds

  within : (m : Make) (j : ℕ) → CellWithin (top_of m) (cell (sheet S m) j)
  within Classes = cell_within class_rank class_top (λ x. x.ok) classes
  within Speeds = cell_within speed_rank speed_top (λ x. x.ok) speeds

  reaches : (m : Make) → first (Reaches (cell (sheet S m) i).value) (allowed path S m i) (bounds_of path m) ≡ None
      → pos (cell (sheet S m) i).value ≡ least_of (top_of m) (allowed path S m i) (bounds_of path m) → ⊥
  reaches Classes n e = reached class_top (allowed path S Classes i) _ Cap (RampBefore ∷ RampAfter ∷ []) (let w = (within Classes i).cap in omega (arith, ints)) e n
  reaches Speeds n e = reached speed_top (allowed path S Speeds i) _ Cap (ByClass ∷ RampBefore ∷ RampAfter ∷ Average ∷ rows_from 0 (length (rows_of path))) (let w = (within Speeds i).cap in omega (arith, ints)) e n

  -- ---- the greatest pair leaves room nowhere

  in_range : (m : Make) → inside S m i ≡ true → i < length S.classes
  in_range Classes t = ltb-true i (length S.classes) t
  in_range Speeds t = ltb-true i (length S.classes) (and_parts (inside S Classes i) _ t).0

  own_within : (m : Make) → Within (top_of m) (own S m)
  own_within m j _ = let e = rank_values (sheet S m) j in let w = (within m j).value in omega arith

  abbrev σ : Setting
  σ = setting (length S.classes) (class_number path) (speed_number path)

  module _ (g : HoldGreatest path S) (l : i < length S.classes) where
    under_grant : (m : Make) → (cell (sheet S m) i).value ≤ granted S m i
    under_grant Classes = (within Classes i).value
    under_grant Speeds =
        let t = g.keeping.tabled i l in
        let v = rank_values S.speeds i in
        let c = ap entry (rank_values S.classes i) in
        omega arith

    granting : (m : Make) → (cell (sheet S m) i).value + 1 ≤ granted S m i → Granting σ (own S) i m
    granting Classes a = tt
    granting Speeds a =
        let v = rank_values S.speeds i in
        let c = ap entry (rank_values S.classes i) in
        omega arith

    full : (m : Make) → pos (cell (sheet S m) i).value ≡ together path S m i
    full m =
        let c = cell (sheet S m) i in
        let n = number_on path m (own S m) i in
        let v = rank_values (sheet S m) i in
        let capped = g.keeping.capped m i l in
        let limited = g.keeping.limited m i l in
        by_lt_z (pos c.value) (together path S m i)
        (λ less. let room = leaves c.value c.cap (granted S m i) n less in
        let top = (within m i).cap in
        absurd (no_room σ (path_lawful path _ (omega arith)) (bounds_in S) (own S) g.keeping own_within i l m
        (omega arith) (omega arith) (granting m room.1) (omega (arith, ints)) g.above))
        (λ over. reaching c.value c.cap (granted S m i) n (omega arith) (under_grant m) (omega (arith, ints)) over)

  pub binds : (m : Make) (r : Option Bound) → r ≡ binding path S m i → Binds path S m i r
  binds m r e = record {
    bound = e;
    least = least_is path S m i;
    free = free;
    held = λ g t n. free n t (full g (in_range m t) m);
  }
    where
      free : r ≡ None → inside S m i ≡ true → pos (cell (sheet S m) i).value ≡ together path S m i → ⊥
      free n t v = reaches m (no_bound _ (sym (cond-true (inside S m i) _ None t) ∙ sym e ∙ n)) (v ∙ sym (least_is path S m i))

  pub clashes : (r : Option Clash) → r ≡ clashing path S i → Clashes path S i r
  clashes r e = record {
    clash = e;
    clear = λ n t m.
        let parts = or_parts (clash_of path S Classes i) (clash_of path S Speeds i) (sym (cond-true (inside S Speeds i) _ None t) ∙ sym e ∙ n) in
        let none : (m : Make) → clash_of path S m i ≡ None = λ m. elim m as (λ m. clash_of path S m i ≡ None) [ Classes ↦ parts.0 | Speeds ↦ parts.1 ] in
        let over = above_floor (top_of m) (allowed path S m i) _ (bounds_of path m) (within m i).floor (no_clash m _ _ (none m)) in
        rw (least_is path S m i) at over;
  }

  -- ---- the answers of the code

  -- is sample i in the sheet? as in the cells
  there : {G : Type 0} (rank : G → ℕ) (cells : List (Cell G)) → ltb i (length (ranked_all rank cells)) ≡ ltb i (length cells)
  there rank cells = ap (ltb i) (length-map cells (ranked rank))

  inside_classes : i < length classes → inside S Classes i ≡ true
  inside_classes h = there class_rank classes ∙ lt-ltb i (length classes) h

  inside_speeds : i < length classes → i < length speeds → inside S Speeds i ≡ true
  inside_speeds h k = and_from _ _ (inside_classes h) (there speed_rank speeds ∙ lt-ltb i (length speeds) k)

  outside_classes : length classes ≤ i → inside S Classes i ≡ false
  outside_classes h = there class_rank classes ∙ le-ltb i (length classes) h

  outside_speeds : (length classes ≤ i) ⊎ (length speeds ≤ i) → inside S Speeds i ≡ false
  outside_speeds = ⊎_elim (λ h. and_left (inside S Classes i) _ (outside_classes h)) (λ h. and_right (inside S Classes i) _ (there speed_rank speeds ∙ le-ltb i (length speeds) h))

  pub no_class : (o : Option Bound) → o ≡ None → length classes ≤ i → Binds path S Classes i o
  no_class o e h = binds Classes o (e ∙ sym (cond-false (inside S Classes i) (bound_of path S Classes i) None (outside_classes h)))

  pub no_speed : (o : Option Bound) → o ≡ None → (length classes ≤ i) ⊎ (length speeds ≤ i) → Binds path S Speeds i o
  no_speed o e h = binds Speeds o (e ∙ sym (cond-false (inside S Speeds i) (bound_of path S Speeds i) None (outside_speeds h)))

  pub no_clash_there : (o : Option Clash) → o ≡ None → (length classes ≤ i) ⊎ (length speeds ≤ i) → Clashes path S i o
  no_clash_there o e h = clashes o (e ∙ sym (cond-false (inside S Speeds i) _ None (outside_speeds h)))

  -- at a place that has the path, the sheets and the number
  module _ (p : Path) (cs : List (Cell Class)) (ss : List (Cell Speed)) (j : ℕ) (p_is : p ≡ path) (cs_is : cs ≡ classes) (ss_is : ss ≡ speeds) (j_is : j ≡ i) (l : j < length cs) where
    in_classes : inside S Classes i ≡ true
    in_classes = inside_classes (omega (arith, ap length cs_is))

    in_speeds : j < length ss → inside S Speeds i ≡ true
    in_speeds k = inside_speeds (omega (arith, ap length cs_is)) (omega (arith, ap length ss_is))

    here : {X : Type 0} (f : Path → List (Cell Class) → List (Cell Speed) → ℕ → X) → f p cs ss j ≡ f path classes speeds i
    here f = ap (λ x. f x cs ss j) p_is ∙ ap (λ x. f path x ss j) cs_is ∙ ap (λ x. f path classes x j) ss_is ∙ ap (f path classes speeds) j_is

    pub class_there : (o : Option Bound) → o ≡ bound_of p (sheets_of cs ss) Classes j → Binds path S Classes i o
    class_there o e = binds Classes o (e ∙ here (λ a x y k. bound_of a (sheets_of x y) Classes k) ∙ sym (cond-true (inside S Classes i) _ None in_classes))

    pub speed_there : j < length ss → (o : Option Bound) → o ≡ bound_of p (sheets_of cs ss) Speeds j → Binds path S Speeds i o
    speed_there k o e = binds Speeds o (e ∙ here (λ a x y k. bound_of a (sheets_of x y) Speeds k) ∙ sym (cond-true (inside S Speeds i) _ None (in_speeds k)))

    pub clash_there : j < length ss → (o : Option Clash) → o ≡ option_or (clash_of p (sheets_of cs ss) Classes j) (clash_of p (sheets_of cs ss) Speeds j) → Clashes path S i o
    clash_there k o e =
        clashes o (e ∙ here (λ a x y n. option_or (clash_of a (sheets_of x y) Classes n) (clash_of a (sheets_of x y) Speeds n)) ∙ sym (cond-true (inside S Speeds i) _ None (in_speeds k)))
