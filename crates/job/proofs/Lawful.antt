-- The law over every call: the setting of a job over two lawful limits keeps its laws, so the theory's law speaks of it.
use Rattle.std.proofs.Common.{◌≡◌, ℕ, zero, suc, ◌<◌, ◌≤◌, List, [], ◌∷◌, ◌++◌, length, take, drop, Ok, Err, Result, IsErrAnd, sym, refl, ap, ◌∙◌, subst, ⊎_elim, le_trans, le_refl, arith, lit≤}
use Rattle.std.proofs.lemmas.Bool.{cases_eq}
use Rattle.std.proofs.lemmas.List.{length-take-le}
use Rattle.grade.specs.declared.cell.Cell.{Cell}
use Rattle.grade.specs.declared.class.Class.{Class}
use Rattle.grade.specs.declared.speed.Speed.{Speed}
use Rattle.grade.specs.Tops.{class_top, speed_top}
use Rattle.limit.specs.Numbers.{Number, LimitLaw}
use Rattle.runs.specs.declared.call.Call.{Call}
use Rattle.runs.specs.declared.call.Fault.{Fault}
use Rattle.runs.specs.declared.stage.Make.{Make}
use Rattle.runs.specs.declared.stage.Make.TheVariants.{Classes, Speeds}
use Rattle.runs.specs.declared.reply.Reply.{Reply}
use Rattle.runs.specs.declared.reply.Reply.TheVariants.{Done}
use Rattle.runs.specs.Answers.{Answer}
use Rattle.runs.specs.Settings.{SettingLaw}
use Rattle.runs.specs.Making.{Start, StartLaw, made}
use Rattle.runs.specs.Calls.{granted, refused, verdict, acted, replied, called, answered}
use Rattle.runs.specs.Runs.{after}
use Rattle.runs.specs.Law.{RunLaw}
use Rattle.runs.proofs.Runs.{run_more}
use Rattle.runs.proofs.Law.{runs_lawful}
use Rattle.job.specs.declared.job.Job.{Job}
use Rattle.job.specs.Table.{entry}
use Rattle.job.specs.Whole.{top_of, limit_of, whole, setting}
use Rattle.job.specs.Holding.{Held, held, count, whole_of, setting_of, room_for, room, judged, Led}
use Rattle.job.specs.Calling.{asked, outcome, reply, replying, Does, Lawful, Promises}
use Rattle.job.proofs.Acting.{refused_is, acts_classes, acts_speeds}
use Rattle.job.proofs.Rooms.{room_yes, room_both}

-- the table never falls
climbs : (k : ℕ) → k < 7 → entry k ≤ entry (suc k)
climbs zero h = lit≤ tt
climbs (suc zero) h = lit≤ tt
climbs (suc (suc zero)) h = lit≤ tt
climbs (suc (suc (suc zero))) h = lit≤ tt
climbs (suc (suc (suc (suc zero)))) h = lit≤ tt
climbs (suc (suc (suc (suc (suc zero))))) h = lit≤ tt
climbs (suc (suc (suc (suc (suc (suc zero)))))) h = lit≤ tt
climbs (suc (suc (suc (suc (suc (suc (suc k))))))) h = absurd (omega arith)

rises : (a b : ℕ) → a ≤ b → b ≤ 7 → entry a ≤ entry b
rises a zero h l = let e : a ≡ 0 = omega arith in subst (λ k. entry k ≤ entry 0) (sym e) (le_refl (entry 0))
rises a (suc b) h l =
    ⊎_elim (λ e. subst (λ k. entry k ≤ entry (suc b)) (sym e) (le_refl (entry (suc b))))
    (λ ne. le_trans (rises a b (omega arith) (omega arith)) (climbs b (omega arith))) (cases_eq a (suc b))

pub lawful_setting : (n : ℕ) (a b : Number) → 0 < n → LimitLaw class_top a → LimitLaw speed_top b → SettingLaw (setting n a b)
lawful_setting n a b some a_law b_law = record { sampled = some; limits = limits; rises = rises }
  where
    limits : (m : Make) → LimitLaw (top_of m) (limit_of a b m)
    limits Classes = a_law
    limits Speeds = b_law

module _ (a b : Number) where
  -- a job that is led to by a start and calls keeps the law
  pub led_lawful : LimitLaw class_top a → LimitLaw speed_top b → (s : Start) (cs : List Call) (h : Held) → Led a b s cs h → RunLaw (setting_of a b h) s cs (whole_of h)
  led_lawful a_law b_law s cs h led =
      let l = h.job.samples.least in
      subst (RunLaw (setting_of a b h) s cs) (sym led.job) (runs_lawful (setting_of a b h) (lawful_setting (count h) a b (omega arith) a_law b_law) s led.start cs)

  -- where the memories hold the samples, a call leads where the theory says
  pub in_room : (call : Call) (h : Held) → room h ≡ granted → outcome a b call h ≡ called (setting_of a b h) call (whole_of h)
  unfolding called
  in_room call h roomy =
      let fit = room_both (count h) (length h.classes) (length h.speeds) roomy in
      let v = verdict (setting_of a b h) call h.job.stage in
      ap (λ x. judged x (acted (setting_of a b h) call (whole_of h)) (λ _. whole_of h)) (room_yes (count h) (length h.classes) (length h.speeds) v fit.0 fit.1) ∙ same v
    where
      same : (v : _) → judged v (acted (setting_of a b h) call (whole_of h)) (λ _. whole_of h) ≡ elim v [ Ok _ ↦ acted (setting_of a b h) call (whole_of h) | Err f ↦ whole_of h ]
      same (Ok _) = refl
      same (Err f) = refl

  pub reply_in_room : (call : Call) (h : Held) → room h ≡ granted → reply a b call h ≡ answered (setting_of a b h) call (whole_of h)
  unfolding answered
  reply_in_room call h roomy =
      let fit = room_both (count h) (length h.classes) (length h.speeds) roomy in
      let v = verdict (setting_of a b h) call h.job.stage in
      ap (λ x. judged x (Ok (replied (setting_of a b h) call (whole_of h))) Err) (room_yes (count h) (length h.classes) (length h.speeds) v fit.0 fit.1) ∙ same v
    where
      same : (v : _) → judged v (Ok (replied (setting_of a b h) call (whole_of h))) Err ≡ elim v [ Ok _ ↦ Ok (replied (setting_of a b h) call (whole_of h)) | Err f ↦ Err f ]
      same (Ok _) = refl
      same (Err f) = refl

  -- as long as before, the memories still hold the samples
  pub room_still : (h h' : Held) → h'.job.samples ≡ h.job.samples → length h'.classes ≡ length h.classes → length h'.speeds ≡ length h.speeds → room h ≡ granted → room h' ≡ granted
  room_still h h' samples c-long s-long roomy =
      ap (λ s. room_for s.count (length h'.classes) (length h'.speeds) granted) samples ∙ ap (λ n. room_for (count h) n (length h'.speeds) granted) c-long
      ∙ ap (λ n. room_for (count h) (length h.classes) n granted) s-long ∙ roomy

  -- what leads to h leads on to h', where the work from h to h' is the calls cs
  pub leads_on : (s : Start) (earlier cs : List Call) (h h' : Held) → Led a b s earlier h → h'.job.samples ≡ h.job.samples → length h'.classes ≡ length h.classes
      → length h'.speeds ≡ length h.speeds → whole_of h' ≡ after (setting_of a b h) s (earlier ++ cs) → Led a b s (earlier ++ cs) h'
  leads_on s earlier cs h h' led samples c-long s-long job_is = record {
    start = subst (λ n. StartLaw (setting n.count a b) s) (sym samples) led.start;
    room = room_still h h' samples c-long s-long led.room;
    job = job_is ∙ ap (λ n. after (setting n.count a b) s (earlier ++ cs)) (sym samples);
  }

  pub lawful_from : LimitLaw class_top a → LimitLaw speed_top b → (cs : List Call) (h h' : Held) → h'.job.samples ≡ h.job.samples
      → ((s : Start) (earlier : List Call) → Led a b s earlier h → Led a b s (earlier ++ cs) h') → Lawful a b cs h h'
  lawful_from a_law b_law cs h h' samples leads = record {
    leads = leads;
    law = λ s earlier led. subst (λ n. RunLaw (setting n.count a b) s (earlier ++ cs) (whole_of h')) samples (led_lawful a_law b_law s (earlier ++ cs) h' (leads s earlier led));
  }

  pub lawful_call : LimitLaw class_top a → LimitLaw speed_top b → (call : Call) (h h' : Held) (x : Answer) → Does a b call h h' x → Lawful a b (call ∷ []) h h'
  lawful_call a_law b_law call h h' x does = lawful_from a_law b_law (call ∷ []) h h' does.holds.samples
      (λ s earlier led. leads_on s earlier (call ∷ []) h h' led does.holds.samples does.holds.long_classes does.holds.long_speeds
      (does.holds.job ∙ in_room call h led.room ∙ ap (called (setting_of a b h) call) led.job ∙ sym (run_more (setting_of a b h) earlier call (made (setting_of a b h) s))))

-- what a call promises that is handed no limit, by what it does
pub promised : (call : Call) (h h' : Held) (x : Answer) → ((a b : Number) → Does a b call h h' x) → Promises call h h' x
promised call h h' x does = record { does = does; law = λ a b a_law b_law. lawful_call a b a_law b_law call h h' x (does a b) }

-- and where it is refused, so that a method that asks first returns r
pub promised_refused : {X : Type 0} (call : Call) (j : Job) (cs : List (Cell Class)) (ss : List (Cell Speed)) (made : X → Reply) (r : Result X Fault) (f : Fault) → IsErrAnd r (λ e. e ≡ f)
    → ((a b : Number) → refused f ≡ asked a b call (held j cs ss)) → Promises call (held j cs ss) (held j cs ss) (replying made r)
promised_refused call j cs ss made r f is no_is =
    promised call (held j cs ss) (held j cs ss) (replying made r) (λ a b. refused_is a b call (held j cs ss) made r f is (no_is a b))

-- a change of one memory that is done, as a cut or a lift makes it: cells' are the ones in place of the job's
module _ (call : Call) (j j' : Job) (cs : List (Cell Class)) (ss : List (Cell Speed)) (yes_is : (a b : Number) → granted ≡ asked a b call (held j cs ss))
    (fit : (j.samples.count ≤ length cs) × (j.samples.count ≤ length ss)) (samples : j'.samples ≡ j.samples)
    (replies : (a b : Number) → replied (setting_of a b (held j cs ss)) call (whole_of (held j cs ss)) ≡ Done) where
  abbrev h : Held
  h = held j cs ss

  pub class_changed : (cells' : List (Cell Class)) → length cells' ≡ length (take (count h) cs) → ((a b : Number) → whole j' cells' (take (count h) ss) ≡ acted (setting_of a b h) call (whole_of h))
      → Promises call h (held j' (cells' ++ drop (count h) cs) ss) (Ok Done)
  class_changed cells' long changed = promised call h (held j' (cells' ++ drop (count h) cs) ss) (Ok Done)
      (λ a b. acts_classes a b call j cs ss (yes_is a b) fit.0 fit.1 j' samples (Ok Done) cells' (long ∙ length-take-le (count h) cs fit.0) (changed a b) (ap Ok (sym (replies a b))))

  pub speed_changed : (cells' : List (Cell Speed)) → length cells' ≡ length (take (count h) ss) → ((a b : Number) → whole j' (take (count h) cs) cells' ≡ acted (setting_of a b h) call (whole_of h))
      → Promises call h (held j' cs (cells' ++ drop (count h) ss)) (Ok Done)
  speed_changed cells' long changed = promised call h (held j' cs (cells' ++ drop (count h) ss)) (Ok Done)
      (λ a b. acts_speeds a b call j cs ss (yes_is a b) fit.0 fit.1 j' samples (Ok Done) cells' (long ∙ length-take-le (count h) ss fit.1) (changed a b) (ap Ok (sym (replies a b))))
