-- The first bound at which the answer is yes, as the code finds it.
use Rattle.std.proofs.Common.{◌≡◌, ℕ, List, [], ◌++◌, ℤ, pos, Some, None, Option, sym, refl, ap, ◌∙◌}
use Rattle.std.specs.Option.{option_or, MatchOption}
use Rattle.grade.specs.declared.cell.Cell.{Cell}
use Rattle.grade.specs.declared.class.Class.{Class as ClassGrade}
use Rattle.grade.specs.declared.speed.Speed.{Speed}
use Rattle.grade.specs.Profiles.{Profile}
use Rattle.grade.specs.Ranks.{class_rank, speed_rank, ranked, ranked_all, ranks}
use Rattle.grade.specs.Tops.{class_top, speed_top}
use Rattle.grade.proofs.Ranking.{values_ranked}
use Rattle.torque.specs.declared.row.Row.{Row}
use Rattle.motion.specs.declared.steps.Step.{Step}
use Rattle.motion.specs.Averages.{average}
use Rattle.motion.specs.Ramps.{before_allows, after}
use Rattle.torque.specs.Rows.{row_at}
use Rattle.motion.specs.Torques.{allows}
use Rattle.frame.specs.Views.{path_of}
use Rattle.sources.specs.Sources.{class_steps, speed_steps, offsets_of, rows_of}
use Rattle.runs.specs.declared.stage.Make.TheVariants.{Classes, Speeds}
use Rattle.runs.specs.Sheets.{cell}
use Rattle.job.specs.Table.{entry}
use Rattle.job.specs.Whole.{sheets_of}
use Rattle.binding.specs.declared.bound.Bound.{Bound}
use Rattle.binding.specs.declared.bound.Bound.TheVariants.{Cap, Class, RampBefore, RampAfter, Average}
use Rattle.binding.specs.declared.bound.Found.{Found}
use Rattle.binding.specs.declared.question.Question.{Question}
use Rattle.binding.specs.Bounds.{allowed, plain_bounds, RampNumbers, SpeedNumbers}
use Rattle.binding.specs.Questions.{judged, first}

module _ {X : Type 0} where
  or_or : (a b c : Option X) → option_or (option_or a b) c ≡ option_or a (option_or b c)
  or_or None b c = refl
  or_or (Some x) b c = refl

  -- what `or_else` gives: a, or else what its closure gives, of which Q says that it is b
  pub or_else_is : (a r : Option X) (Q : Type 0) (b : Option X) → MatchOption a Q (λ x. r ≡ Some x) → (Q → r ≡ b) → r ≡ option_or a b
  or_else_is None r Q b m gives = gives m
  or_else_is (Some x) r Q b m gives = m

-- a chain of calls asks the bounds of a squared speed in their order
module _ (q : Question) (cap grant : ℕ) (steps : List Step) (qs : List ℤ) (h : ℕ) (rows : List Row) (p : Profile) (i : ℕ) (f : Bound → ℤ) (n : SpeedNumbers cap grant steps qs h rows p i f) where
  pub chained : (rest : List Bound) (a b c d e : Option Found) → a ≡ judged q Cap (pos cap) → b ≡ option_or a (judged q Class (pos grant))
      → c ≡ option_or b (option_or (judged q RampBefore (before_allows speed_top steps p i)) (judged q RampAfter (after speed_top steps p i)))
      → d ≡ option_or c (judged q Average (average qs p i)) → e ≡ option_or d (first q f rest) → e ≡ first q f (plain_bounds ++ rest)
  chained rest a b c d e a_is b_is c_is d_is e_is = rw (e_is, d_is, c_is, b_is, a_is, n.ramp.cap_is, n.class_is, n.ramp.before_is, n.ramp.after_is, n.average_is) (simp or_or)

-- ---- the numbers that a frame's limits read

module _ (bs : List ℕ) (classes : List (Cell ClassGrade)) (i : ℕ) (x : Cell ClassGrade) (read : ranked class_rank x ≡ cell (ranked_all class_rank classes) i) where
  pub class_numbers : (a : List ℕ) → a ≡ bs → RampNumbers class_top (class_rank x.cap) (class_steps (path_of a)) (ranks class_rank classes) i (allowed (path_of bs) (sheets_of classes []) Classes i)
  class_numbers a a_is =
      let p = values_ranked class_rank classes in
      rw a_is (record { cap_is = sym (ap (λ c. pos c.cap) read); before_is = ap (λ r. before_allows class_top (class_steps (path_of bs)) r i) p; after_is = ap (λ r. after class_top (class_steps (path_of bs)) r i) p })

  module _ (grant : ℕ) (tabled : grant ≡ entry (class_rank x.value)) (speeds : List (Cell Speed)) (y : Cell Speed) (seen : ranked speed_rank y ≡ cell (ranked_all speed_rank speeds) i) where
    pub speed_numbers : (a b r : List ℕ) → a ≡ bs → b ≡ bs → r ≡ bs
        → SpeedNumbers (speed_rank y.cap) grant (speed_steps (path_of a)) (offsets_of (path_of b)) (path_of r).header.spacing (rows_of (path_of r)) (ranks speed_rank speeds) i (allowed (path_of bs) (sheets_of classes speeds) Speeds i)
    speed_numbers a b r a_is b_is r_is =
        let p = values_ranked speed_rank speeds in
        let path = path_of bs in
        rw (a_is, b_is, r_is)
        (record {
          ramp = record { cap_is = sym (ap (λ c. pos c.cap) seen); before_is = ap (λ r. before_allows speed_top (speed_steps path) r i) p; after_is = ap (λ r. after speed_top (speed_steps path) r i) p };
          class_is = ap pos (ap (λ c. entry c.value) (sym read) ∙ sym tabled);
          average_is = ap (λ r. average (offsets_of path) r i) p;
          rows_are = λ k. ap (λ r. allows path.header.spacing r i (row_at (rows_of path) k)) p;
        })
