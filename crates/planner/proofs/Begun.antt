-- Memory filled from a path gives the path's start.
use Rattle.std.proofs.Common.{◌≡◌, ℕ, List, length, take, drop, sym, ap, ◌∙◌, subst}
use mathlib.Core.List.{map-map}
use Rattle.std.proofs.lemmas.List.{length-map}
use Rattle.grade.specs.declared.cell.Cell.{Cell}
use Rattle.grade.specs.declared.class.Class.{Class}
use Rattle.grade.specs.declared.speed.Speed.{Speed}
use Rattle.grade.specs.Ranks.{class_rank, speed_rank, ranked_all}
use Rattle.runs.specs.declared.stage.Make.{Make}
use Rattle.runs.specs.declared.stage.Make.TheVariants.{Classes, Speeds}
use Rattle.job.specs.Making.{caps_of, floors_of, handed, start_of}
use Rattle.frame.specs.Paths.{Path}
use Rattle.planner.specs.Starts.{class_cell, speed_cell, class_sheet_of, speed_sheet_of, caps_from, floors_from, start_from, Filled}

-- the start that memory filled from a path gives is the path's
module _ (p : Path) (n : ℕ) (n-is : n ≡ length p.samples) (cs cs₁ : List (Cell Class)) (ss ss₁ : List (Cell Speed)) (fc : Filled class_rank (class_sheet_of p) cs cs₁) (fs : Filled speed_rank (speed_sheet_of p) ss ss₁) where
  class_count : length (class_sheet_of p) ≡ n
  class_count = length-map p.samples class_cell ∙ sym n-is

  speed_count : length (speed_sheet_of p) ≡ n
  speed_count = length-map p.samples (speed_cell p.header.lateral) ∙ sym n-is

  class_front : ranked_all class_rank (take n cs₁) ≡ class_sheet_of p
  class_front = subst (λ (k : ℕ). ranked_all class_rank (take k cs₁) ≡ class_sheet_of p) class_count fc.front

  speed_front : ranked_all speed_rank (take n ss₁) ≡ speed_sheet_of p
  speed_front = subst (λ (k : ℕ). ranked_all speed_rank (take k ss₁) ≡ speed_sheet_of p) speed_count fs.front

  caps_are : (m : Make) → caps_of (handed n cs₁ ss₁ m) ≡ caps_from p m
  caps_are Classes = ap caps_of class_front ∙ map-map (λ (c : Cell ℕ). c.cap) class_cell p.samples
  caps_are Speeds = ap caps_of speed_front ∙ map-map (λ (c : Cell ℕ). c.cap) (speed_cell p.header.lateral) p.samples

  floors_are : (m : Make) → floors_of (handed n cs₁ ss₁ m) ≡ floors_from p m
  floors_are Classes = ap floors_of class_front ∙ map-map (λ (c : Cell ℕ). c.floor) class_cell p.samples
  floors_are Speeds = ap floors_of speed_front ∙ map-map (λ (c : Cell ℕ). c.floor) (speed_cell p.header.lateral) p.samples

  pub start_is : start_of n cs₁ ss₁ ≡ start_from p
  start_is = λ i. record { caps = λ m. caps_are m i; floors = λ m. floors_are m i }

  pub past_classes : drop n cs₁ ≡ drop n cs
  past_classes = subst (λ (k : ℕ). drop k cs₁ ≡ drop k cs) class_count fc.past

  pub past_speeds : drop n ss₁ ≡ drop n ss
  past_speeds = subst (λ (k : ℕ). drop k ss₁ ≡ drop k ss) speed_count fs.past
