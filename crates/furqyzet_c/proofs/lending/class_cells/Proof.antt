-- `class_cells` lends the same memory at the other type: a walk of its code by hand.
use Rattle.std.proofs.Common.{◌≡◌, List, [], ◌∷◌, map, length, refl, sym, subst, MutBor, lit<}
use Rattle.std.proofs.raw_atomic.Walks.{proved}
use lib.ListN.{length-map}
use mir.Syntax.{named}
use mir.Val.{Val, vstruct, vcons, vnil}
use seplogic.Ra.Ura.{Ura}
use types.Logic.{Logic, sem}
use denote.Memory.{mem, part_of}
use base.Logic.{id⊢}
use base.Fml.{GName, ftrue, flft}
use contract.Running.{tables}
use types.Kit.{‵, ◌⊛◌, later, some, at_ret, ◌$◌, ◌∵◌, !, qed, move, keep, drop, split, split3, join, fsplit, fjoin, feq_i, fpack, use2, await, pick, suffices, frame, done}
use types.Part.{whole, sub, agg}
use types.Run.{stop, fld, hop, from, addr, and_then, no_more, of_opd, lit, first, blocks, exec, returns, enter}
use types.ByLocal.{alloc_all, pass_all, free_all, look_at, look_in_at, get, get_in, sets, sets_last, env}
use denote.Exit.{no}
use denote.RattleType.{RattleType, owns, Valss}
use denote.Signature.{plain, mut_slice_of}
use denote.Slice.{MutSlice, Room, slice_val, mut_slice_vals, mut_slice_Tells}
use denote.Steps.{nothing}
use denote.Struct.Declared.{shape}
use denote.Struct.Struct.{within}
use denote.Struct.Tuple.{tuple_type}
use denote.Triple.Walked.{says, Stays, stay_dropped, walk_of, ends_at, Goes-spent_slice}
use Rattle.grade.specs.contracts.cell.Cell.{the_row as cell_row}
use Rattle.grade.specs.contracts.class.Class.{the_row as class_row}
use Rattle.furqyzet_c.specs.contracts.cells.ClassCell.{the_row}
use Rattle.furqyzet_c.specs.Cells.{class_cell, class_cell_back}
use Rattle.furqyzet_c.proofs.Recast.{Alike, lent, lends_alike, one, two}
use Rattle.furqyzet_c.specs.contracts.lending.class_cells as f
use Rattle.furqyzet_c.proofs.lending.class_cells.Statement.{statement}
use Rattle.furqyzet_c.proofs.lending.class_cells.Code as code

abbrev S : RattleType
S = the_row

abbrev R : RattleType
R = cell_row class_row

abbrev stayed : Stays f.ended.signature.params f.ended.kept
stayed = (stay_dropped (mut_slice_of (0 ∷ []) tt (plain (λ _. S))) no, tt)

module _ {M : Type 1} {𝓤 : Ura M} (𝓛 : Logic 𝓤) where
  same : Alike 𝓛 S R class_cell class_cell_back
  unfolding part_of
  same = record { size_is = refl; there = λ x b o. id⊢ 𝓤 (sem 𝓛 ((mem S).own_at x b o)); back = λ y b o. id⊢ 𝓤 (sem 𝓛 ((mem R).own_at y b o)) }

pub class_cells_spec : {M : Type 1} → statement M
class_cells_spec 𝓤 𝓛 𝓜 𝓡 wired =
    let c = f.clauses 𝓛 𝓜.mem 𝓡.returns in let W = walk_of 𝓛 f.ended stayed c in let 𝓣 = tables 𝓤 𝓛.H 𝓜 𝓡 𝓡.env in
    proved 𝓛 f.ended stayed c 𝓜 𝓡 (Goes-spent_slice 𝓛 1 (0 ∷ []) tt (plain (λ _. S)), tt)
    f.Key.name code.function (code.unfolded 𝓤 𝓛.H 𝓜 𝓡 wired)
    (λ κs. (mut_slice_vals, tt)) (λ κs. (mut_slice_Tells (named 0) κs.0 S, tt)) (λ κs qs bounds a _ are.
    let κ = κs.0 in let q = qs.0 in let s = a.0 in let b = s.ref_ptr.0 in let o = s.ref_ptr.1 in let xs = s.now in
    let y : W.Ghost = ((κs, qs, bounds, a, (mut_slice_vals s, tt)), tt) in
    let rm : Room S (length xs) = are.0.0.1 in
    let ys = map class_cell xs in
    let many : length ys ≡ length xs = length-map xs class_cell in
    let rm' : Room R (length ys) = subst (Room R) (sym many) rm in
    let rm0 : Room R 0 = (lit< tt, lit< tt) in
    let halves : List RattleType = MutSlice (named 0) κ R ∷ MutSlice (named 0) κ R ∷ [] in
    let first_one : GName × GName → MutBor (List R.Denot) = one 𝓛 S R class_cell class_cell_back (same 𝓛) (named 0) κ q b o s.ghost_name xs in
    let second_one : GName × GName → MutBor (List R.Denot) = two 𝓛 S R class_cell class_cell_back (same 𝓛) (named 0) κ q b o s.ghost_name xs in
    let v : Val = vstruct (vcons (slice_val (b, o) (length xs)) (vcons (slice_val (b, o) 0) vnil)) in
    qed 𝓛 (((‵ (flft κ q) ⊛ ‵ ftrue) ⊛ ‵ (owns (MutSlice (named 0) κ S ∷ []) a (mut_slice_vals s, tt))) ∷ ‵ ftrue ∷ []) ∵
    split ! $ move ! (2 ∷ []) $ drop ! $ enter ! _ _ _ _ _ $
    alloc_all ! (λ l. pass_all ! refl ((tt, (tt, (record { fits = rm.0 }, tt))), tt) $
    sets ! (of_opd ! (get_in ! (fld ! refl (stop !)) (sub ! 1 refl (whole !)))) refl (tt, record { fits = rm.0 }) $
    sets ! (addr ! (from ! (fld ! refl (hop ! (look_in_at ! 1 (sub ! 0 refl (whole !))) (stop !))))) refl (tt, tt) $
    first ! $ blocks ! $
    sets ! (agg ! (and_then ! (get ! refl) (and_then ! (get ! refl) (no_more !)))) refl (tt, (tt, (record { fits = rm.0 }, tt))) $
    sets ! (agg ! (and_then ! (get ! refl) (and_then ! (lit ! tt) (no_more !)))) refl (tt, (tt, (record { fits = lit< tt }, tt))) $
    sets_last ! (agg ! (and_then ! (get ! refl) (and_then ! (get ! refl) (no_more !)))) refl (tt, ((tt, (record { fits = rm.0 }, tt)), ((tt, (record { fits = lit< tt }, tt)), tt))) $
    exec ! 𝓣.C 𝓣.Λ (env code.Mir.locals l) code.Mir.t-4 (at_ret _ (W.post y)) $
    sets ! (of_opd ! (get ! refl)) refl (tt, ((tt, (record { fits = rm.0 }, tt)), ((tt, (record { fits = lit< tt }, tt)), tt))) $
    split ! $ move ! (2 ∷ []) $ fsplit ! $ move ! (0 ∷ 2 ∷ []) $
    use2 𝓛 (later (some (lent 𝓛 S R class_cell class_cell_back (same 𝓛) (named 0) κ q b o s.ghost_name xs))) (lends_alike 𝓛 S R class_cell class_cell_back (same 𝓛) (named 0) κ q b o s.ghost_name xs rm' rm0 (mut_slice_vals s)) $ await ! tt $ pick ! (λ δ.
    split3 ! $ nothing ! $ move ! (2 ∷ 0 ∷ []) $ fjoin ! $ move ! (1 ∷ 0 ∷ []) $ fjoin ! $
    feq_i ! (List Val) (v ∷ []) (vstruct (vcons (slice_val (b, o) (length ys)) (vcons (slice_val (b, o) 0) vnil)) ∷ []) (λ k. vstruct (vcons (slice_val (b, o) (sym many k)) (vcons (slice_val (b, o) 0) vnil)) ∷ []) $ fjoin ! $
    fpack ! (Valss halves) (within (shape (tuple_type halves)) (first_one δ, (second_one δ, tt)) (v ∷ [])) (slice_val (b, o) (length ys) ∷ [], (slice_val (b, o) 0 ∷ [], tt)) $
    move ! (1 ∷ []) $ split ! $ move ! (2 ∷ 0 ∷ 1 ∷ []) $
    returns ! (look_at ! 0 refl) $ free_all ! refl $ keep ! (0 ∷ 1 ∷ 2 ∷ 4 ∷ []) $
    suffices ! _ (ends_at 𝓛 f.ended stayed c y v (first_one δ, second_one δ) (tt, tt) (tt, tt)) $
    nothing ! $ nothing ! $ fjoin ! $ join ! $ move ! (1 ∷ 3 ∷ []) $ join ! $ join ! $ frame ! $ says ! refl $ done !)))
