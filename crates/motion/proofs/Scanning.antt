-- Evaluating rows: which of them bear on a sample, and how the least is met row by row.
use Rattle.std.proofs.Common.{◌≡◌, ℕ, zero, suc, ◌+◌, ◌-◌, ◌*◌, ◌<◌, ◌≤◌, ◌+ℤ◌, min, List, [], ◌∷◌, length, drop, ℤ, pos, negsuc, sym, refl, ap, ◌∙◌, arith}
use Rattle.std.specs.Int.{int_min}
use Rattle.std.proofs.lemmas.List.{at_drop_more, get_or-drop, length-drop}
use Rattle.std.proofs.lemmas.Int.{ints, clamps}
use Rattle.std.proofs.lemmas.Bool.Decides.{nat_tests}
use Rattle.grade.specs.Profiles.{Profile, rank}
use Rattle.grade.specs.Tops.{speed_top}
use Rattle.torque.specs.declared.row.Row.{Row}
use Rattle.torque.specs.Rows.{row_at, no_row, Sound, SoundRows}
use Rattle.motion.specs.declared.triple.Triple.{Triple}
use Rattle.motion.specs.FloorsLemmas.{floored_high}
use Rattle.motion.specs.Torques.{on_right_of, on_left_of, bound, allows, least, torque}
use Rattle.motion.specs.TorquesLemmas.{least_low, least_high, least_none, allows_low}

module _ (h : ℕ) (p : Profile) (i : ℕ) (r : Row) where
  -- a row at neither gap beside the sample bounds nothing there
  elsewhere : (r.gap + 1 ≡ i → ⊥) → (r.gap ≡ i → ⊥) → allows h p i r ≡ pos speed_top
  elsewhere m n = grind (arith, ints, clamps, nat_tests)

-- rows at the front that bound nothing are passed over
least_past : (f : Row → ℤ) (k : ℕ) (rows : List Row) → ((j : ℕ) → j < k → f (row_at rows j) ≡ pos speed_top) → k ≤ length rows → least f (drop k rows) ≡ least f rows
least_past f zero rows h l = refl
least_past f (suc k) [] h l = refl
least_past f (suc k) (r ∷ rows) h l =
    let e = least_past f k rows (λ j m. h (suc j) (omega arith)) (omega arith) in
    let a = h 0 (omega arith) in
    let b = least_high f rows in
    omega (arith, ints, clamps)

module _ {h : ℕ} {rows : List Row} (sound : SoundRows h rows) (p : Profile) (i : ℕ) where
  -- the least of the rows from k on
  abbrev pub rest : ℕ → ℤ
  rest k = least (allows h p i) (drop k rows)

  pub rest_here : (k : ℕ) → k ≤ length rows → ((j : ℕ) → j < k → (row_at rows j).gap + 1 < i) → rest k ≡ torque h rows p i
  rest_here k l before = least_past (allows h p i) k rows (λ j m. let n = before j m in elsewhere h p i (row_at rows j) (omega arith) (omega arith)) l

  pub rest_first : (k b : ℕ) → k ≤ length rows → ((j : ℕ) → j < k → (row_at rows j).gap + 1 < i) → b ≡ speed_top → int_min (pos b) (rest k) ≡ torque h rows p i
  rest_first k b l before e =
      let a = least_past (allows h p i) k rows (λ j m. let n = before j m in elsewhere h p i (row_at rows j) (omega arith) (omega arith)) l in
      let t = least_high (allows h p i) rows in
      omega (arith, ints, clamps)

  -- the row r that was read at k, under the spacing s that was read
  module _ (k s : ℕ) (r : Row) (l : k < length rows) (spaced : s ≡ h) (read : r ≡ row_at rows k) where
    pub sound_row_lem : Sound s r
    sound_row_lem = rw (spaced, read) (sound.sound k l)

    one_more : rest k ≡ int_min (allows s p i r) (rest (k + 1))
    one_more = at_drop_more (least (allows h p i)) rows k no_row l ∙ ap (λ (z : ℤ). int_min z (rest (k + 1))) (sym (ap (λ (n : ℕ). allows n p i r) spaced ∙ ap (allows h p i) read))

    pub rest_more : (a b c : ℕ) → int_min (pos b) (rest k) ≡ torque h rows p i → pos a ≡ allows s p i r → c ≡ min b a → int_min (pos c) (rest (k + 1)) ≡ torque h rows p i
    rest_more a b c inv e m = let o = one_more in omega (arith, ints, clamps)

    pub rest_nothing : (b : ℕ) → int_min (pos b) (rest k) ≡ torque h rows p i → negsuc 0 ≡ allows s p i r → negsuc 0 ≡ torque h rows p i
    rest_nothing b inv e = let o = one_more in let w = least_low (allows h p i) (allows_low h p i) (drop (k + 1) rows) in omega (arith, ints, clamps)

    -- from k on the gaps lie past the sample
    pub rest_past : (b : ℕ) {z : ℤ} → int_min (pos b) (rest k) ≡ z → b ≤ speed_top → i < r.gap → pos b ≡ z
    rest_past b inv m past =
        let here : i < (row_at rows k).gap = rw read at past in
        let none : rest k ≡ pos speed_top = least_none (allows h p i) (drop k rows) (λ j n.
        let in_rows : k + j < length rows = omega (arith, length-drop k rows) in
        let up = sound.rising k (k + j) (omega arith) in_rows in
        ap (allows h p i) (get_or-drop k rows j no_row) ∙ elsewhere h p i (row_at rows (k + j)) (omega arith) (omega arith)) in
        omega (arith, ints, clamps)

  -- ---- gap by gap

  -- the rows whose gaps lie before gap n are the first k
  abbrev pub Begins : ℕ → ℕ → Type 0
  Begins n k = (k ≤ length rows) × ((j : ℕ) → j < k → (row_at rows j).gap < n) × (k < length rows → n ≤ (row_at rows k).gap)

  pub in_order : (m n a b : ℕ) → m ≤ n → Begins m a → Begins n b → a ≤ b
  in_order m n a b le f g =
      let c : (b < a → ⊥) = λ l. let x = f.1 b l in let y = g.2 (omega arith) in omega arith in
      omega arith

  gap_is : (n a b k : ℕ) → Begins n a → Begins (n + 1) b → a ≤ k → k < b → (row_at rows k).gap ≡ n
  gap_is n a b k f g le l =
      let lower = sound.rising a k le (omega arith) in
      let x = f.2 (omega arith) in
      let y = g.1 k l in
      omega arith

  -- from the rows of the gap before the sample on
  pub rest_left : (a : ℕ) → 0 < i → Begins (i - 1) a → rest a ≡ torque h rows p i
  rest_left a in_side f = rest_here a f.0 (λ j m. let x = f.1 j m in omega arith)

  -- what is left after the rows of the gap after the sample bounds nothing
  pub rest_right : (b : ℕ) → Begins (i + 1) b → rest b ≡ pos speed_top
  rest_right b g = least_none (allows h p i) (drop b rows) (λ j n.
      let in_rows : b + j < length rows = omega (arith, length-drop b rows) in
      let up = sound.rising b (b + j) (omega arith) in_rows in
      let x = g.2 (omega arith) in
      ap (allows h p i) (get_or-drop b rows j no_row) ∙ elsewhere h p i (row_at rows (b + j)) (omega arith) (omega arith))

  module _ (k : ℕ) (l : k < length rows) where
    abbrev r : Row
    r = row_at rows k

    row_right : r.gap + 1 ≡ i → i < length p → allows h p i r ≡ bound (on_right_of h r) (rank p (i - 1))
    row_right e m = let t = floored_high (on_right_of h r).own (pos ((on_right_of h r).near * rank p (i - 1)) +ℤ (on_right_of h r).constant) in grind (arith, ints, clamps, nat_tests)

    row_left : r.gap ≡ i → i + 1 < length p → allows h p i r ≡ bound (on_left_of h r) (rank p (i + 1))
    row_left e m = let t = floored_high (on_left_of h r).own (pos ((on_left_of h r).near * rank p (i + 1)) +ℤ (on_left_of h r).constant) in grind (arith, ints, clamps, nat_tests)

    -- a number y taken as far as the row's answer, of a number x before
    pub rest_next : (x y z : ℤ) → int_min x (rest k) ≡ z → y ≡ int_min x (allows h p i r) → int_min y (rest (k + 1)) ≡ z
    rest_next x y z inv e = let o = one_more k h r l refl refl in omega (arith, ints, clamps)

    pub rest_next_right : (a b : ℕ) → 0 < i → i < length p → Begins (i - 1) a → Begins i b → a ≤ k → k < b → (x y z : ℤ) (t : Triple) (w : ℕ) → int_min x (rest k) ≡ z
        → t ≡ on_right_of h r → w ≡ rank p (i - 1) → y ≡ int_min x (bound t w) → int_min y (rest (k + 1)) ≡ z
    rest_next_right a b in_side m f g le before x y z t w inv is at e =
        let n : i - 1 + 1 ≡ i = omega arith in
        let gap = gap_is (i - 1) a b k f (rw n g) le before in
        rest_next x y z inv (e ∙ ap (λ u. int_min x (bound u w)) is ∙ ap (λ u. int_min x (bound (on_right_of h r) u)) at ∙ ap (int_min x) (sym (row_right (omega arith) m)))

    pub rest_next_left : (a b : ℕ) → i + 1 < length p → Begins i a → Begins (i + 1) b → a ≤ k → k < b → (x y z : ℤ) (t : Triple) (w : ℕ) → int_min x (rest k) ≡ z
        → t ≡ on_left_of h r → w ≡ rank p (i + 1) → y ≡ int_min x (bound t w) → int_min y (rest (k + 1)) ≡ z
    rest_next_left a b m f g le before x y z t w inv is at e =
        let gap = gap_is i a b k f g le before in
        rest_next x y z inv (e ∙ ap (λ u. int_min x (bound u w)) is ∙ ap (λ u. int_min x (bound (on_left_of h r) u)) at ∙ ap (int_min x) (sym (row_left gap m)))
