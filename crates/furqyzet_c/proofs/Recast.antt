-- A `&mut` of a slice is lent on as a slice of another type that lies alike, beside an empty one, and the lender follows the
-- first. Assumes `Logic`.
use Rattle.std.proofs.Common.{◌≡◌, ℕ, ◌+◌, List, [], ◌∷◌, map, length, refl, sym, ◌∙◌, MutBor}
use lib.ListN.{length-map}
use seplogic.Ra.Ura.{Ura}
use mir.Syntax.{Lifetime}
use mir.Val.{Val}
use base.Logic.{SProp, ent, sep, ex, emp}
use base.Stored.{coded_list}
use base.Fml.{Lft, GName, Share, flft, fobs, fbor}
use types.Logic.{Logic, sem}
use types.Kit.{Item, ‵, ◌⊛◌, raw, ◌$◌, ◌∵◌, !, qed, move, keep, drop, fsplit, fsplit3, fjoin, updating, await, later, some, use1, group, pick, now, show, done, rewrite, feq_l, feq_i, split3}
use types.SemTy.{cells, Arr, Body}
use types.Follow.{takes_two, after₂}
use types.Mut.{open_ref}
use denote.RattleType.{RattleType}
use denote.Memory.{mem}
use denote.Array.{Array}
use denote.Slice.{MutSlice, Room, slice_val}
use denote.Steps.{nothing}
use denote.Follow.{both_by, follows_both}
use denote.FollowSlice.{heres_id, slice_of}

-- a value of the one type lies as a value of the other
pub record Alike {M : Type 1} {𝓤 : Ura M} (𝓛 : Logic 𝓤) (S R : RattleType) (f : S.Denot → R.Denot) (g : R.Denot → S.Denot) : Type 1 where
  pub size_is : (mem S).size ≡ (mem R).size
  pub there : (x : S.Denot) (b o : ℕ) → ent 𝓤 (sem 𝓛 ((mem S).own_at x b o)) (sem 𝓛 ((mem R).own_at (f x) b o))
  pub back : (y : R.Denot) (b o : ℕ) → ent 𝓤 (sem 𝓛 ((mem R).own_at y b o)) (sem 𝓛 ((mem S).own_at (g y) b o))

module _ {M : Type 1} {𝓤 : Ura M} (𝓛 : Logic 𝓤) (S R : RattleType) (f : S.Denot → R.Denot) (g : R.Denot → S.Denot) (same : Alike 𝓛 S R f g) where
  open 𝓛 use {H, A}

  cells_there : (b : ℕ) (xs : List S.Denot) (o : ℕ) → ent 𝓤 (sem 𝓛 (cells (mem S) xs b o)) (sem 𝓛 (cells (mem R) (map f xs) b o))
  cells_there b [] o = qed 𝓛 (‵ (cells (mem S) [] b o) ∷ []) ∵ done !
  cells_there b (x ∷ xs) o = qed 𝓛 (‵ (cells (mem S) (x ∷ xs) b o) ∷ []) ∵ fsplit ! $
      use1 𝓛 (‵ ((mem R).own_at (f x) b o)) (same.there x b o) $ move ! (1 ∷ []) $
      use1 𝓛 (‵ (cells (mem R) (map f xs) b (o + (mem S).size))) (cells_there b xs (o + (mem S).size)) $
      rewrite ! 0 (λ (k : ℕ). ‵ (cells (mem R) (map f xs) b (o + k))) same.size_is refl $ move ! (1 ∷ 0 ∷ []) $ fjoin ! $ done !

  cells_back : (b : ℕ) (ys : List R.Denot) (o : ℕ) → ent 𝓤 (sem 𝓛 (cells (mem R) ys b o)) (sem 𝓛 (cells (mem S) (map g ys) b o))
  cells_back b [] o = qed 𝓛 (‵ (cells (mem R) [] b o) ∷ []) ∵ done !
  cells_back b (y ∷ ys) o = qed 𝓛 (‵ (cells (mem R) (y ∷ ys) b o) ∷ []) ∵ fsplit ! $
      use1 𝓛 (‵ ((mem S).own_at (g y) b o)) (same.back y b o) $ move ! (1 ∷ []) $
      use1 𝓛 (‵ (cells (mem S) (map g ys) b (o + (mem R).size))) (cells_back b ys (o + (mem R).size)) $
      rewrite ! 0 (λ (k : ℕ). ‵ (cells (mem S) (map g ys) b (o + k))) (sym same.size_is) refl $ move ! (1 ∷ 0 ∷ []) $ fjoin ! $ done !

  module _ (ℓ : Lifetime) (κ : Lft) (q : Share) (b o : ℕ) (γ : GName) (xs : List S.Denot) where
    abbrev ys : List R.Denot
    ys = map f xs

    -- the cells come back, and what lies in the second part is none
    put_back : (ws zs : List R.Denot) → ent 𝓤 (sep 𝓤 (sem 𝓛 ((Arr (mem R) (length ys)).own_at ws b o)) (sep 𝓤 (sem 𝓛 ((Arr (mem R) 0).own_at zs b o)) (emp 𝓤))) (sem 𝓛 ((Arr (mem S) (length xs)).own_at (map g ws) b o))
    put_back ws zs = qed 𝓛 (‵ ((Arr (mem R) (length ys)).own_at ws b o) ∷ ‵ ((Arr (mem R) 0).own_at zs b o) ∷ raw (emp 𝓤) ∷ []) ∵ fsplit ! $ feq_l ! (λ e.
        use1 𝓛 (‵ (cells (mem S) (map g ws) b o)) (cells_back b ws o) $
        feq_i ! ℕ (length (map g ws)) (length xs) (length-map ws g ∙ e ∙ length-map xs f) $ fjoin ! $ keep ! (0 ∷ []) $ done !)

    abbrev F : List R.Denot → List R.Denot → List S.Denot
    F ws zs = map g ws

    abbrev pub one : GName × GName → MutBor (List R.Denot)
    one δ = record { ref_ptr = (b, o); ghost_name = δ.0; now = ys }

    abbrev pub two : GName × GName → MutBor (List R.Denot)
    two δ = record { ref_ptr = (b, o); ghost_name = δ.1; now = [] }

    -- the slice and an empty one under new names, the token, and what the lender ends as
    abbrev pub lent : GName × GName → Item 𝓤
    lent δ = ‵ ((MutSlice ℓ κ R).own_val (one δ) (slice_val (b, o) (length ys) ∷ [])) ⊛ ‵ ((MutSlice ℓ κ R).own_val (two δ) (slice_val (b, o) 0 ∷ [])) ⊛ ‵ (flft κ q) ⊛ ‵ (follows_both (Array S 0) (Array R 0) (Array R 0) γ δ.0 δ.1 F)

    abbrev Lent : GName × GName → SProp 𝓤
    Lent δ = sep 𝓤 (sem 𝓛 ((MutSlice ℓ κ R).own_val (one δ) (slice_val (b, o) (length ys) ∷ []))) (sep 𝓤 (sem 𝓛 ((MutSlice ℓ κ R).own_val (two δ) (slice_val (b, o) 0 ∷ []))) (sep 𝓤 (A.lft κ q) (sem 𝓛 (follows_both (Array S 0) (Array R 0) (Array R 0) γ δ.0 δ.1 F))))

    pub lends_alike : Room R (length ys) → Room R 0 → (vs : List Val)
        → ent 𝓤 (sep 𝓤 (sem 𝓛 ((MutSlice ℓ κ S).own_val (record { ref_ptr = (b, o); ghost_name = γ; now = xs }) vs)) (A.lft κ q)) (H.⇛ (ex 𝓤 Lent))
    unfolding both_by
    lends_alike rm rm0 vs = qed 𝓛 (‵ ((MutSlice ℓ κ S).own_val (record { ref_ptr = (b, o); ghost_name = γ; now = xs }) vs) ∷ ‵ (flft κ q) ∷ []) ∵ updating ! $ fsplit3 ! $ drop ! $
        rewrite ! 0 (λ (l : List S.Denot). ‵ (fobs γ ((coded_list S.coded).code l))) (heres_id S xs) refl $ open_ref ! tt (Arr (mem S) (length xs)) {b = b} {o = o} $ fsplit ! $ drop ! $
        use1 𝓛 (‵ (cells (mem R) ys b o)) (cells_there b xs o) $ feq_i ! ℕ (length ys) (length ys) refl $ fjoin ! $
        nothing ! $ feq_i ! ℕ (length {A = R.Denot} []) 0 refl $ fjoin ! $
        nothing ! $ move ! (3 ∷ 4 ∷ 5 ∷ 2 ∷ 1 ∷ 0 ∷ []) $ group ! 6 $
        use1 𝓛 (later (some (λ (δ : GName × GName). (‵ (fobs δ.0 ((coded_list R.coded).code ys)) ⊛ ‵ (fbor κ (Body (Arr (mem R) (length ys)) b o δ.0))) ⊛ (‵ (fobs δ.1 ((coded_list R.coded).code [])) ⊛ ‵ (fbor κ (Body (Arr (mem R) 0) b o δ.1))) ⊛ ‵ (flft κ q) ⊛ ‵ (after₂ (Arr (mem S) (length xs)) (Arr (mem R) (length ys)) (Arr (mem R) 0) γ δ.0 δ.1 F))))
        (takes_two 𝓛 (Arr (mem S) (length xs)) (Arr (mem R) (length ys)) (Arr (mem R) 0) F κ q b o b o b o γ (emp 𝓤) put_back ((coded_list S.coded).code xs) ((coded_list S.coded).code xs) ys []) $ await ! tt $ pick ! (λ δ. split3 ! $
        use1 𝓛 (‵ ((MutSlice ℓ κ R).own_val (one δ) (slice_val (b, o) (length ys) ∷ []))) (slice_of 𝓛 R ℓ κ b o δ.0 ys rm) $ move ! (1 ∷ []) $
        use1 𝓛 (‵ ((MutSlice ℓ κ R).own_val (two δ) (slice_val (b, o) 0 ∷ []))) (slice_of 𝓛 R ℓ κ b o δ.1 [] rm0) $ move ! (1 ∷ 0 ∷ []) $
        now ! $ show ! Lent δ $ done !)
