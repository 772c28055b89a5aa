-- A sequence of calls in words, one more at a time.
use Rattle.std.proofs.Common.{◌≡◌, ℕ, suc, min, List, [], ◌∷◌, ◌++◌, length, take, Some, None, Option, sym, refl, ap, ◌∙◌, subst, ⊎_elim, append-nil, arith}
use Rattle.std.proofs.lemmas.Bool.{cases_lt}
use Rattle.std.proofs.lemmas.List.{take_all}
use Rattle.grade.specs.Tops.{class_top, speed_top}
use Rattle.limit.specs.Numbers.{Number, LimitLaw}
use Rattle.runs.specs.declared.call.Call.{Call}
use Rattle.runs.specs.Calls.{granted, answered}
use Rattle.runs.specs.Jobs.{Job as Whole}
use Rattle.runs.specs.Runs.{run}
use Rattle.runs.specs.Settings.{Setting}
use Rattle.runs.specs.Making.{made}
use Rattle.runs.proofs.Runs.{run-append, run_more}
use Rattle.job.specs.Calling.{Holds, Lawful}
use Rattle.job.specs.Holding.{Held, room, setting_of, whole_of}
use Rattle.job.proofs.Lawful.{leads_on, lawful_from}
use Rattle.sequence.proofs.Folding.{holds_more, answer_more}
use Rattle.furqyzet_c.specs.declared.answer_words.AnswerWords.{AnswerWords}
use Rattle.furqyzet_c.specs.declared.call_words.CallWords.{CallWords}
use Rattle.furqyzet_c.specs.Answers.{of_number, answer_words, replied_to, moved, replies}
use Rattle.furqyzet_c.specs.Calls.{call_in, before, calls_in}
use Rattle.furqyzet_c.specs.Performing.{ActsIn, placed}

-- ---- the calls

before_more : (o : Option Call) (cs ds : List Call) → before o (cs ++ ds) ≡ before o cs ++ ds
before_more None cs ds = refl
before_more (Some c) cs ds = refl

pub calls_more : (ws : List CallWords) (w : CallWords) → calls_in (ws ++ (w ∷ [])) ≡ calls_in ws ++ before (call_in w) []
unfolding calls_in
calls_more [] w = refl
calls_more (v ∷ ws) w = ap (before (call_in v)) (calls_more ws w) ∙ before_more (call_in v) (calls_in ws) (before (call_in w) [])

-- ---- the answers

module _ (σ : Setting) where
  run_before : (o : Option Call) (cs : List Call) (j : Whole) → run σ (before o cs) j ≡ run σ cs (moved σ o j)
  unfolding run
  run_before None cs j = refl
  run_before (Some c) cs j = refl

  pub replies_more : (ws : List CallWords) (w : CallWords) (j : Whole) → replies σ (ws ++ (w ∷ [])) j ≡ replies σ ws j ++ (replied_to σ (call_in w) (run σ (calls_in ws) j) ∷ [])
  unfolding replies calls_in run
  replies_more [] w j = refl
  replies_more (v ∷ ws) w j =
      ap (λ l. replied_to σ (call_in v) j ∷ l) (replies_more ws w (moved σ (call_in v) j)
      ∙ ap (λ k. replies σ ws (moved σ (call_in v) j) ++ (replied_to σ (call_in w) k ∷ [])) (sym (run_before (call_in v) (calls_in ws) j)))

  pub length-replies : (ws : List CallWords) (j : Whole) → length (replies σ ws j) ≡ length ws
  unfolding replies
  length-replies [] j = refl
  length-replies (w ∷ ws) j = ap suc (length-replies ws (moved σ (call_in w) j))

-- ---- one call more, after the calls cs took h to i

module _ (a b : Number) (h i k : Held) (cs : List Call) (roomy : room h ≡ granted) (so_far : Holds (run (setting_of a b h) cs (whole_of h)) h i) where
  abbrev σ : Setting
  σ = setting_of a b h

  pub acts_more : (o : Option Call) (x : AnswerWords) → ActsIn a b o i k x → Holds (run σ (cs ++ before o []) (whole_of h)) h k
  acts_more None x acts = subst (Holds (run σ (cs ++ []) (whole_of h)) h) (sym acts.0) (subst (λ l. Holds (run σ l (whole_of h)) h i) (sym (append-nil cs)) so_far)
  acts_more (Some c) x acts = holds_more a b h i k cs c acts.answer roomy so_far acts.does

  pub acts_replied : (o : Option Call) (x : AnswerWords) → ActsIn a b o i k x → x ≡ replied_to σ o (run σ cs (whole_of h))
  acts_replied None x acts = acts.1 ∙ ap (λ j. of_number 254 j.stage) so_far.job
  acts_replied (Some c) x acts =
      let more = holds_more a b h i k cs c acts.answer roomy so_far acts.does in
      acts.words ∙ ap (λ y. answer_words y k.job.stage) (answer_more a b h i k cs c acts.answer roomy so_far acts.does)
      ∙ ap (λ j. answer_words (answered σ c (run σ cs (whole_of h))) j.stage) (more.job ∙ run_more σ cs c (whole_of h))

-- the calls for whose answers there is a place are the code's choice of them
pub placed_are : (ws : List CallWords) (old : List AnswerWords) (m : ℕ) → m ≡ min (length ws) (length old) → take m ws ≡ placed ws old
placed_are ws old m e =
    ⊎_elim (λ l. let all : m ≡ length ws = omega arith in take_all m ws (omega arith) ∙ sym (take_all (length old) ws (omega arith)))
    (λ l. let all : m ≡ length old = omega arith in ap (λ k. take k ws) all) (cases_lt (length ws) (length old))

-- the law over the calls, by where they lead
pub lawful_all : (a b : Number) → LimitLaw class_top a → LimitLaw speed_top b → (calls : List Call) (h h' : Held)
    → Holds (run (setting_of a b h) calls (whole_of h)) h h' → Lawful a b calls h h'
lawful_all a b a_law b_law calls h h' holds = lawful_from a b a_law b_law calls h h' holds.samples
    (λ s earlier led. leads_on a b s earlier calls h h' led holds.samples holds.long_classes holds.long_speeds
    (holds.job ∙ ap (run (setting_of a b h) calls) led.job ∙ sym (run-append (setting_of a b h) earlier calls (made (setting_of a b h) s))))
