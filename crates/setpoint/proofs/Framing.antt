-- Setpoints written one behind the other, after their header.
use Rattle.std.proofs.Common.{◌≡◌, ℕ, zero, suc, ◌+◌, ◌*◌, ◌<◌, ◌≤◌, List, [], ◌∷◌, ◌++◌, length, get_or, take, drop, sym, refl, ap, ◌∙◌, add-one, arith}
use Rattle.std.proofs.lemmas.List.{length-take-le, length-map, get_or-map, take_all}
use Rattle.words.specs.Words.{written}
use Rattle.words.proofs.Writes.{front, twice}
use Rattle.grade.specs.declared.cell.Cell.{Cell}
use Rattle.grade.specs.declared.class.Class.{Class}
use Rattle.grade.specs.declared.speed.Speed.{Speed}
use Rattle.grade.specs.Profiles.{Profile, rank}
use Rattle.grade.specs.Ranks.{class_rank, speed_rank, ranked, ranked_all}
use Rattle.setpoint.specs.Frames.{profile, setpoint, setpoints, header, setpoint_bytes_of, frame_size_of}

-- ---- profiles of cells

pub length-profile : {G : Type 0} (of : G → ℕ) (cells : List (Cell G)) → length (profile of cells) ≡ length cells
length-profile of cells = length-map (ranked_all of cells) (λ c. c.value) ∙ length-map cells (ranked of)

-- the rank of a cell's value
pub profile_at : {G : Type 0} (of : G → ℕ) (cells : List (Cell G)) (i : ℕ) (d : Cell G) → i < length cells → of (get_or cells i d).value ≡ rank (profile of cells) i
profile_at of cells i d h =
    let l : i < length (ranked_all of cells) = omega (arith, length-map cells (ranked of)) in
    ap (λ (c : Cell ℕ). c.value) (sym (get_or-map (ranked of) cells i d (ranked of d) h)) ∙ sym (get_or-map (λ (c : Cell ℕ). c.value) (ranked_all of cells) i (ranked of d) 0 l)

-- ---- setpoints

length-setpoints : (cs ws : Profile) → length ws ≡ length cs → length (setpoints cs ws) ≡ 3 * length cs
length-setpoints [] ws e = refl
length-setpoints (c ∷ cs) [] e = omega arith
length-setpoints (c ∷ cs) (w ∷ ws) e = let t = length-setpoints cs ws (omega arith) in omega arith

more : (cs ws : Profile) (i : ℕ) → i < length cs → i < length ws → setpoints (take i cs) (take i ws) ++ setpoint (rank cs i) (rank ws i) ≡ setpoints (take (suc i) cs) (take (suc i) ws)
more [] ws i h l = absurd (omega arith)
more (c ∷ cs) [] i h l = absurd (omega arith)
more (c ∷ cs) (w ∷ ws) zero h l = refl
more (c ∷ cs) (w ∷ ws) (suc i) h l = ap (λ (z : List ℕ). setpoint c w ++ z) (more cs ws i (omega arith) (omega arith))

-- one more setpoint, behind those before it
pub more_written : (d : List ℕ) (cs ws : Profile) (i : ℕ) → length ws ≡ length cs → i < length cs → 7 ≤ length d
    → written (written d 7 (setpoints (take i cs) (take i ws))) (7 + 3 * i) (setpoint (rank cs i) (rank ws i)) ≡ written d 7 (setpoints (take (i + 1) cs) (take (i + 1) ws))
more_written d cs ws i e h l =
    let a = length-take-le i cs (omega arith) in
    let b = length-take-le i ws (omega arith) in
    let n : 7 + 3 * i ≡ 7 + length (setpoints (take i cs) (take i ws)) = omega (arith, length-setpoints (take i cs) (take i ws) (omega arith)) in
    twice d (setpoints (take i cs) (take i ws)) (setpoint (rank cs i) (rank ws i)) 7 (7 + 3 * i) l n
    ∙ ap (written d 7) (more cs ws i h (omega arith))
    ∙ ap (λ (k : ℕ). written d 7 (setpoints (take k cs) (take k ws))) (sym (add-one i))

-- all of them, behind the header
pub all_written : (d : List ℕ) (cs ws : Profile) → length ws ≡ length cs → 7 ≤ length d
    → written (written d 0 (header (length cs))) 7 (setpoints cs ws) ≡ setpoint_bytes_of cs ws ++ drop (frame_size_of (length cs)) d
all_written d cs ws e l =
    front (header (length cs)) d (setpoints cs ws) 7 refl ∙ ap (λ (z : ℕ). setpoint_bytes_of cs ws ++ drop (7 + z) d) (length-setpoints cs ws e)

-- ---- of cells

module _ (classes : List (Cell Class)) (speeds : List (Cell Speed)) (alike : length speeds ≡ length classes) where
  abbrev cs : Profile
  cs = profile class_rank classes

  abbrev ws : Profile
  ws = profile speed_rank speeds

  same : length ws ≡ length cs
  same = length-profile speed_rank speeds ∙ alike ∙ sym (length-profile class_rank classes)

  -- a turn of the loop that writes them: k and w are read at i, and their bytes put behind those before
  pub turn : (d out out' bytes : List ℕ) (i k w : ℕ) → i < length classes → 7 ≤ length d → out ≡ written d 7 (setpoints (take i cs) (take i ws))
      → out' ≡ written out (7 + 3 * i) bytes → bytes ≡ setpoint k w → k ≡ rank cs i → w ≡ rank ws i
      → out' ≡ written d 7 (setpoints (take (i + 1) cs) (take (i + 1) ws))
  turn d out out' bytes i k w h l before put_is bytes_are k_is w_is =
      put_is ∙ ap (λ (z : List ℕ). written z (7 + 3 * i) bytes) before
      ∙ ap (λ (z : List ℕ). written (written d 7 (setpoints (take i cs) (take i ws))) (7 + 3 * i) z)
      (bytes_are ∙ ap (λ (z : ℕ). setpoint z w) k_is ∙ ap (λ (z : ℕ). setpoint (rank cs i) z) w_is)
      ∙ more_written d cs ws i same (omega (arith, length-profile class_rank classes)) l

  -- after the last turn
  pub done : (d out : List ℕ) (i : ℕ) → length classes ≤ i → out ≡ written d 7 (setpoints (take i cs) (take i ws)) → out ≡ written d 7 (setpoints cs ws)
  done d out i h e =
      let a = length-profile class_rank classes in
      e ∙ ap (λ (z : Profile). written d 7 (setpoints z (take i ws))) (take_all i cs (omega arith))
      ∙ ap (λ (z : Profile). written d 7 (setpoints cs z)) (take_all i ws (omega (arith, same)))

  -- the header put, and the setpoints behind it
  pub framed : (d e out' bytes : List ℕ) → 7 ≤ length d → bytes ≡ header (length classes) → e ≡ written d 0 bytes → out' ≡ written e 7 (setpoints cs ws)
      → out' ≡ setpoint_bytes_of cs ws ++ drop (frame_size_of (length classes)) d
  framed d e out' bytes l bytes_are e_is put_is =
      let n = length-profile class_rank classes in
      put_is ∙ ap (λ (z : List ℕ). written z 7 (setpoints cs ws)) (e_is ∙ ap (written d 0) (bytes_are ∙ ap header (sym n)))
      ∙ all_written d cs ws same l
      ∙ ap (λ (k : ℕ). setpoint_bytes_of cs ws ++ drop (frame_size_of k) d) n
