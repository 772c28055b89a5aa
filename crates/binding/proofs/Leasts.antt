-- The least of the bounds: what no bound reaches or falls short of.
use Rattle.std.proofs.Common.{◌≡◌, ℕ, suc, ◌+◌, ◌≤◌, false, List, [], ◌∷◌, length, ℤ, pos, negsuc, ◌≤ℤ◌, Some, None, Option, sym, refl, ap, ◌∙◌, ⊎_elim, arith}
use Rattle.std.specs.Int.{int_min}
use Rattle.std.specs.Option.{option_or}
use Rattle.std.proofs.lemmas.Int.{ints, clamps, by_lt_z}
use Rattle.std.proofs.lemmas.Bool.{cases_Bool, cond-true, eqb-false, ltb-false, false≢true}
use Rattle.grade.specs.Tops.{speed_top}
use Rattle.torque.specs.declared.row.Row.{Row}
use Rattle.torque.specs.Rows.{row_at}
use Rattle.motion.specs.Torques.{least}
use Rattle.binding.specs.declared.bound.Bound.{Bound}
use Rattle.binding.specs.declared.bound.Bound.TheVariants.{TorqueRow}
use Rattle.binding.specs.declared.question.Question.{Question}
use Rattle.binding.specs.declared.question.Question.TheVariants.{Reaches, FallsShort}
use Rattle.binding.specs.Bounds.{rows_from, least_of}
use Rattle.binding.specs.Questions.{says, judged, first}

-- ---- nothing found

pub or_parts : {X : Type 0} (a b : Option X) → option_or a b ≡ None → (a ≡ None) × (b ≡ None)
or_parts None b e = (refl, e)
or_parts (Some x) b e = absurd (let z : ◌≡◌ {A = ℕ} 0 1 = cc in omega arith)

pub says_no : (q : Question) (b : Bound) (z : ℤ) → judged q b z ≡ None → says q z ≡ false
says_no q b z e =
    ⊎_elim (λ t. let s = sym (cond-true (says q z) (Some (record { bound = b; most = _ })) None t) ∙ e in absurd (let n : ◌≡◌ {A = ℕ} 0 1 = cc in omega arith))
    (λ h. h) (cases_Bool (says q z))

reaches_no : (v : ℕ) (z : ℤ) → says (Reaches v) z ≡ false → pos v ≡ z → ⊥
reaches_no v (pos n) h e = eqb-false n v h (omega (arith, ints))
reaches_no v (negsuc n) h e = omega (arith, ints)

short_no : (x : ℕ) (z : ℤ) → says (FallsShort x) z ≡ false → pos x ≤ℤ z
short_no x (pos n) h = let l = ltb-false n x h in omega (arith, ints)
short_no x (negsuc n) h = absurd (false≢true (sym h))

other : (v : ℕ) (a b : ℤ) → pos v ≡ int_min a b → (pos v ≡ a → ⊥) → pos v ≡ b
other v a b e n = by_lt_z b a (λ l. omega (arith, ints, clamps)) (λ l. absurd (n (omega (arith, ints, clamps))))

module _ (top : ℕ) (f : Bound → ℤ) where
  -- a value at the least of the bounds, of which it reaches none, is the top
  pub at_top : (v : ℕ) (bs : List Bound) → pos v ≡ least_of top f bs → first (Reaches v) f bs ≡ None → v ≡ top
  at_top v [] e n = omega (arith, ints)
  at_top v (b ∷ bs) e n =
      let parts = or_parts (judged (Reaches v) b (f b)) (first (Reaches v) f bs) n in
      at_top v bs (other v (f b) (least_of top f bs) e (reaches_no v (f b) (says_no (Reaches v) b (f b) parts.0))) parts.1

  -- so it reaches one where the first is within the top
  pub reached : (v : ℕ) (b : Bound) (bs : List Bound) → f b ≤ℤ pos top → pos v ≡ least_of top f (b ∷ bs) → first (Reaches v) f (b ∷ bs) ≡ None → ⊥
  reached v b bs w e n =
      let t = at_top v (b ∷ bs) e n in
      let parts = or_parts (judged (Reaches v) b (f b)) (first (Reaches v) f bs) n in
      reaches_no v (f b) (says_no (Reaches v) b (f b) parts.0) (omega (arith, ints, clamps))

  -- a floor of which no bound falls short
  pub above_floor : (x : ℕ) (bs : List Bound) → x ≤ top → first (FallsShort x) f bs ≡ None → pos x ≤ℤ least_of top f bs
  above_floor x [] w n = omega (arith, ints)
  above_floor x (b ∷ bs) w n =
      let parts = or_parts (judged (FallsShort x) b (f b)) (first (FallsShort x) f bs) n in
      let here = short_no x (f b) (says_no (FallsShort x) b (f b) parts.0) in
      let rest = above_floor x bs w parts.1 in
      omega (arith, ints, clamps)

-- ---- the torque rows

-- the least of the rows' bounds is the least of the rows
pub least_rows : (f : Bound → ℤ) (g : Row → ℤ) (rows : List Row) (j : ℕ) → ((k : ℕ) → f (TorqueRow (k + j)) ≡ g (row_at rows k))
    → least_of speed_top f (rows_from j (length rows)) ≡ least g rows
least_rows f g [] j h = refl
least_rows f g (r ∷ rows) j h =
    let z : 0 + j ≡ j = omega arith in
    let here : f (TorqueRow j) ≡ g r = ap (λ k. f (TorqueRow k)) (sym z) ∙ h 0 in
    let rest = least_rows f g rows (suc j) (λ k. let s : k + suc j ≡ suc k + j = omega arith in ap (λ m. f (TorqueRow m)) s ∙ h (suc k)) in
    omega (arith, ints, clamps)
