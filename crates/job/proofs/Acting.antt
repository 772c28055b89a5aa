-- A call that is refused, and one that is done on the front of each memory.
use Rattle.std.proofs.Common.{◌≡◌, ℕ, ◌≤◌, List, ◌++◌, length, take, drop, Ok, Err, Result, IsErrAnd, sym, refl, ap, ◌∙◌, subst, arith, length-append, length-drop}
use Rattle.std.proofs.lemmas.List.{take_at, drop_at, take-append-drop, length-take-le}
use Rattle.grade.specs.declared.cell.Cell.{Cell}
use Rattle.grade.specs.declared.class.Class.{Class}
use Rattle.grade.specs.declared.speed.Speed.{Speed}
use Rattle.grade.specs.Ranks.{class_rank, speed_rank, ranked_all}
use Rattle.limit.specs.Numbers.{Number}
use Rattle.runs.specs.declared.call.Call.{Call}
use Rattle.runs.specs.declared.call.Fault.{Fault}
use Rattle.runs.specs.declared.reply.Reply.{Reply}
use Rattle.runs.specs.Answers.{Answer}
use Rattle.runs.specs.Settings.{Setting}
use Rattle.runs.specs.Jobs.{Job as Whole}
use Rattle.runs.specs.Calls.{granted, refused, acted, replied}
use Rattle.job.specs.declared.job.Job.{Job}
use Rattle.job.specs.Grades.{class_of, speed_of, cells_of}
use Rattle.job.specs.Whole.{whole, setting}
use Rattle.job.specs.Holding.{Held, held, count, whole_of, judged}
use Rattle.job.specs.Calling.{asked, replying, Holds, Does}
use Rattle.job.proofs.Grading.{class_is, speed_is, cells_are}

-- a front written anew leaves what is past it
pub front_length : {X : Type 0} (k : ℕ) (new old : List X) → k ≤ length old → length new ≡ k → length (new ++ drop k old) ≡ length old
front_length k new old h e = simp (length-append, length-drop) (omega arith)

-- cells that are read as the sheet s
module _ {G : Type 0} (rank : G → ℕ) (of : ℕ → G) (same : (x : G) → of (rank x) ≡ x) where
  pub pinned : (cells : List (Cell G)) (s : List (Cell ℕ)) → ranked_all rank cells ≡ s → cells ≡ cells_of of s
  pinned cells s read = sym (cells_are rank of same cells) ∙ ap (cells_of of) read

-- ranks, and what is past them, say which cells there are
pub holding : (j : Whole) (h h' : Held) → h'.job.samples ≡ h.job.samples → whole_of h' ≡ j
    → drop (count h) h'.classes ≡ drop (count h) h.classes → drop (count h) h'.speeds ≡ drop (count h) h.speeds
    → length h'.classes ≡ length h.classes → length h'.speeds ≡ length h.speeds → Holds j h h'
holding j h h' samples job past-c past-s long-c long-s = record {
  samples = samples;
  job = job;
  classes = pinned class_rank class_of class_is (take (count h) h'.classes) j.sheets.classes
      (ap (λ s. ranked_all class_rank (take s.count h'.classes)) (sym samples) ∙ ap (λ w. w.sheets.classes) job);
  speeds = pinned speed_rank speed_of speed_is (take (count h) h'.speeds) j.sheets.speeds
      (ap (λ s. ranked_all speed_rank (take s.count h'.speeds)) (sym samples) ∙ ap (λ w. w.sheets.speeds) job);
  past_classes = past-c;
  past_speeds = past-s;
  long_classes = long-c;
  long_speeds = long-s;
}

pub staying : (j : Whole) (h : Held) → whole_of h ≡ j → Holds j h h
staying j h job = holding j h h refl job refl refl refl refl

module _ (a b : Number) (call : Call) (j : Job) (cs : List (Cell Class)) (ss : List (Cell Speed)) where
  abbrev h : Held
  h = held j cs ss

  abbrev σ : Setting
  σ = setting j.samples.count a b

  pub refuses : (f : Fault) → refused f ≡ asked a b call h → Does a b call h h (Err f)
  refuses f e = record {
    answer = ap (λ v. judged v (Ok (replied σ call (whole_of h))) Err) e;
    holds = staying (judged (asked a b call h) (acted σ call (whole_of h)) (λ _. whole_of h)) h (ap (λ v. judged v (acted σ call (whole_of h)) (λ _. whole_of h)) e);
    unchanged = λ _ _. refl;
  }

  -- it is done, and leaves h'
  module _ (yes_is : granted ≡ asked a b call h) where
    pub does : (h' : Held) (x : Answer) → Holds (acted σ call (whole_of h)) h h' → x ≡ Ok (replied σ call (whole_of h)) → Does a b call h h' x
    does h' x holds reply = record {
      answer = reply ∙ ap (λ v. judged v (Ok (replied σ call (whole_of h))) Err) yes_is;
      holds = subst (λ w. Holds w h h') (ap (λ v. judged v (acted σ call (whole_of h)) (λ _. whole_of h)) yes_is) holds;
      unchanged = λ f e. let z : ◌≡◌ {A = ℕ} 0 1 = cc in absurd (omega arith);
    }

    -- it is done on the front of each memory, as long as the job has samples
    module _ (c-fit : j.samples.count ≤ length cs) (s-fit : j.samples.count ≤ length ss) (j' : Job) (samples : j'.samples ≡ j.samples) (x : Answer) where
      abbrev n : ℕ
      n = j.samples.count

      front : {X : Type 0} (new old : List X) → length new ≡ n → take j'.samples.count (new ++ drop n old) ≡ new
      front new old e = take_at new (drop n old) j'.samples.count (e ∙ ap (λ s. s.count) (sym samples))

      pub acts : (cs' : List (Cell Class)) (ss' : List (Cell Speed)) → length cs' ≡ n → length ss' ≡ n → whole j' cs' ss' ≡ acted σ call (whole_of h) → x ≡ Ok (replied σ call (whole_of h))
          → Does a b call h (held j' (cs' ++ drop n cs) (ss' ++ drop n ss)) x
      acts cs' ss' cs-long ss-long act reply =
          does (held j' (cs' ++ drop n cs) (ss' ++ drop n ss)) x
          (holding (acted σ call (whole_of h)) h (held j' (cs' ++ drop n cs) (ss' ++ drop n ss)) samples
          (ap (λ l. whole j' l (take j'.samples.count (ss' ++ drop n ss))) (front cs' cs cs-long) ∙ ap (λ l. whole j' cs' l) (front ss' ss ss-long) ∙ act)
          (drop_at cs' (drop n cs) n cs-long) (drop_at ss' (drop n ss) n ss-long) (front_length n cs' cs c-fit cs-long) (front_length n ss' ss s-fit ss-long))
          reply

      -- one memory alone
      pub acts_classes : (cs' : List (Cell Class)) → length cs' ≡ n → whole j' cs' (take n ss) ≡ acted σ call (whole_of h) → x ≡ Ok (replied σ call (whole_of h))
          → Does a b call h (held j' (cs' ++ drop n cs) ss) x
      acts_classes cs' long act reply =
          subst (λ l. Does a b call h (held j' (cs' ++ drop n cs) l) x) (take-append-drop n ss) (acts cs' (take n ss) long (length-take-le n ss s-fit) act reply)

      pub acts_speeds : (ss' : List (Cell Speed)) → length ss' ≡ n → whole j' (take n cs) ss' ≡ acted σ call (whole_of h) → x ≡ Ok (replied σ call (whole_of h))
          → Does a b call h (held j' cs (ss' ++ drop n ss)) x
      acts_speeds ss' long act reply =
          subst (λ l. Does a b call h (held j' l (ss' ++ drop n ss)) x) (take-append-drop n cs) (acts (take n cs) ss' (length-take-le n cs c-fit) long act reply)

-- a method that asks first, and is refused, returns r
pub refused_is : {X : Type 0} (a b : Number) (call : Call) (h : Held) (made : X → Reply) (r : Result X Fault) (f : Fault) → IsErrAnd r (λ e. e ≡ f) → refused f ≡ asked a b call h
    → Does a b call h h (replying made r)
refused_is a b call h made (Ok _) f is no_is = absurd is
refused_is a b call h made (Err e) f is no_is = subst (λ k. Does a b call h h (Err k)) (sym is) (refuses a b call h.job h.classes h.speeds f no_is)
