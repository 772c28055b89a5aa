-- A sequence of calls, one more at a time.
use Rattle.std.proofs.Common.{◌≡◌, ℕ, suc, ◌+◌, ◌<◌, min, List, [], ◌∷◌, ◌++◌, length, get_or, take, drop, set, Ok, Err, Result, IsErrAnd, sym, refl, ap, ◌∙◌, subst, ⊎_elim, append_assoc, add-one, arith, drop-cons}
use Rattle.std.proofs.lemmas.List.{set_at, take_all}
use Rattle.std.proofs.lemmas.Bool.{cases_lt}
use Rattle.grade.specs.Tops.{class_top, speed_top}
use Rattle.limit.specs.Numbers.{Number, LimitLaw}
use Rattle.runs.specs.Answers.{Answer}
use Rattle.runs.specs.declared.call.Call.{Call}
use Rattle.runs.specs.declared.call.Fault.{Fault}
use Rattle.runs.specs.Settings.{Setting}
use Rattle.runs.specs.Jobs.{Job as Whole}
use Rattle.runs.specs.Making.{made}
use Rattle.runs.specs.Calls.{granted, refused, called, answered}
use Rattle.runs.specs.Runs.{run, answers}
use Rattle.runs.proofs.Runs.{run-append, run_more}
use Rattle.job.specs.Whole.{setting}
use Rattle.job.specs.Holding.{Held, whole_of, setting_of, room, judged}
use Rattle.job.specs.Calling.{Holds, Does, Lawful}
use Rattle.job.proofs.Acting.{holding, staying}
use Rattle.job.proofs.Lawful.{in_room, reply_in_room, room_still, leads_on, lawful_from}
use Rattle.sequence.specs.Running.{Runs, placed}

pub answers_more : (σ : Setting) (cs : List Call) (c : Call) (j : Whole) → answers σ (cs ++ (c ∷ [])) j ≡ answers σ cs j ++ (answered σ c (run σ cs j) ∷ [])
unfolding run answers
answers_more σ [] c j = refl
answers_more σ (d ∷ cs) c j = ap (λ l. answered σ d j ∷ l) (answers_more σ cs c (called σ d j))

pub length-answers : (σ : Setting) (cs : List Call) (j : Whole) → length (answers σ cs j) ≡ length cs
unfolding answers
length-answers σ [] j = refl
length-answers σ (c ∷ cs) j = ap suc (length-answers σ cs (called σ c j))

-- one place more is written
pub fill_more : {X : Type 0} (xs ys : List X) (i : ℕ) (v : X) → length xs ≡ i → i < length ys
    → set (xs ++ drop i ys) i v ≡ (xs ++ (v ∷ [])) ++ drop (i + 1) ys
fill_more xs ys i v e h =
    ap (λ l. set (xs ++ l) i v) (drop-cons ys i v h) ∙ set_at xs (get_or ys i v) (drop (suc i) ys) v i e
    ∙ sym (append_assoc xs (v ∷ []) (drop (suc i) ys)) ∙ ap (λ k. (xs ++ (v ∷ [])) ++ drop k ys) (sym (add-one i))

-- after the calls cs took h to i, the call c takes i to k
module _ (a b : Number) (h i k : Held) (cs : List Call) (c : Call) (x : Answer)
    (roomy : room h ≡ granted) (so_far : Holds (run (setting_of a b h) cs (whole_of h)) h i) (does : Does a b c i k x) where
  abbrev σ : Setting
  σ = setting_of a b h

  room_here : room i ≡ granted
  room_here = room_still a b h i so_far.samples so_far.long_classes so_far.long_speeds roomy

  pub holds_more : Holds (run σ (cs ++ (c ∷ [])) (whole_of h)) h k
  holds_more =
      let d = does.holds in
      holding (run σ (cs ++ (c ∷ [])) (whole_of h)) h k (d.samples ∙ so_far.samples)
      (d.job ∙ in_room a b c i room_here ∙ ap (λ s. called (setting s.count a b) c (whole_of i)) so_far.samples ∙ ap (called σ c) so_far.job ∙ sym (run_more σ cs c (whole_of h)))
      (subst (λ s. drop s.count k.classes ≡ drop s.count i.classes) so_far.samples d.past_classes ∙ so_far.past_classes)
      (subst (λ s. drop s.count k.speeds ≡ drop s.count i.speeds) so_far.samples d.past_speeds ∙ so_far.past_speeds)
      (d.long_classes ∙ so_far.long_classes) (d.long_speeds ∙ so_far.long_speeds)

  pub answer_more : x ≡ answered σ c (run σ cs (whole_of h))
  answer_more =
      does.answer ∙ reply_in_room a b c i room_here ∙ ap (λ s. answered (setting s.count a b) c (whole_of i)) so_far.samples ∙ ap (answered σ c) so_far.job

-- the code's choice of those that have a place
pub placed_are : (calls : List Call) (old : List Answer) (m : ℕ) → m ≡ min (length calls) (length old) → take m calls ≡ placed calls old
placed_are calls old m e =
    ⊎_elim (λ l. let all : m ≡ length calls = omega arith in take_all m calls (omega arith) ∙ sym (take_all (length old) calls (omega arith)))
    (λ l. let all : m ≡ length old = omega arith in ap (λ k. take k calls) all) (cases_lt (length calls) (length old))

-- all these calls are made
pub runs_all : (a b : Number) (h j : Held) (calls : List Call) (old new : List Answer) → room h ≡ granted → Holds (run (setting_of a b h) calls (whole_of h)) h j
    → new ≡ answers (setting_of a b h) calls (whole_of h) ++ drop (length calls) old → Runs a b calls h j old new (Ok (length calls))
runs_all a b h j calls old new roomy holds new_is = record {
  returned = ap (λ v. judged v (Ok (length calls)) Err) (sym roomy);
  holds = subst (λ w. Holds w h j) (ap (λ v. judged v (run (setting_of a b h) calls (whole_of h)) (λ _. whole_of h)) (sym roomy)) holds;
  answered = new_is ∙ ap (λ v. judged v (answers (setting_of a b h) calls (whole_of h) ++ drop (length calls) old) (λ _. old)) (sym roomy);
  unchanged = λ f e. let z : ◌≡◌ {A = ℕ} 0 1 = cc in absurd (omega arith);
}

-- no room, and nothing is done
runs_none : (a b : Number) (h : Held) (calls : List Call) (old : List Answer) (f : Fault) → refused f ≡ room h → Runs a b calls h h old old (Err f)
runs_none a b h calls old f e = record {
  returned = ap (λ v. judged v (Ok (length calls)) Err) e;
  holds = staying (judged (room h) (run (setting_of a b h) calls (whole_of h)) (λ _. whole_of h)) h (ap (λ v. judged v (run (setting_of a b h) calls (whole_of h)) (λ _. whole_of h)) e);
  answered = ap (λ v. judged v (answers (setting_of a b h) calls (whole_of h) ++ drop (length calls) old) (λ _. old)) e;
  unchanged = λ _ _. refl;
}

-- so that a method that asks first returns r
pub runs_refused : (a b : Number) (h : Held) (calls : List Call) (old : List Answer) (r : Result ℕ Fault) (f : Fault) → IsErrAnd r (λ e. e ≡ f) → refused f ≡ room h → Runs a b calls h h old old r
runs_refused a b h calls old (Ok _) f is no_is = absurd is
runs_refused a b h calls old (Err e) f is no_is = runs_none a b h calls old e (ap refused is ∙ no_is)

-- the law over the calls of a run
pub lawful_run : (a b : Number) → LimitLaw class_top a → LimitLaw speed_top b → (calls : List Call) (h h' : Held) (old new : List Answer) (r : Result ℕ Fault)
    → Runs a b calls h h' old new r → Lawful a b calls h h'
lawful_run a b a_law b_law calls h h' old new r runs = lawful_from a b a_law b_law calls h h' runs.holds.samples
    (λ s earlier led. leads_on a b s earlier calls h h' led runs.holds.samples runs.holds.long_classes runs.holds.long_speeds
    (runs.holds.job ∙ ap (λ v. judged v (run (setting_of a b h) calls (whole_of h)) (λ _. whole_of h)) led.room
    ∙ ap (run (setting_of a b h) calls) led.job ∙ sym (run-append (setting_of a b h) earlier calls (made (setting_of a b h) s))))
