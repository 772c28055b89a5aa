use Rattle.std.proofs.Common.{◌≡◌, ◌+◌, ◌<◌, [], ◌∷◌, ◌++◌, length, get_or, take, drop, set, Ok, sym, refl, ap, ◌∙◌, subst, arith}
use Rattle.std.proofs.lemmas.List.{take_more, take_all, length-take-le}
use Rattle.runs.specs.declared.call.Call.{Call}
use Rattle.runs.specs.declared.call.Call.TheVariants.{Advance}
use Rattle.runs.specs.Settings.{Setting}
use Rattle.runs.specs.Jobs.{Job}
use Rattle.runs.specs.Runs.{run, answers}
use Rattle.job.specs.Whole.{setting}
use Rattle.job.specs.Holding.{Held, held, whole_of}
use Rattle.job.specs.Calling.{Holds}
use Rattle.job.proofs.Acting.{staying}
use Rattle.sequence.specs.Running.{Runs, placed}
use Rattle.sequence.proofs.Folding.{holds_more, answer_more, answers_more, length-answers, fill_more, placed_are, runs_all, runs_refused, lawful_run}
use Rattle.sequence.proofs.running.run.Goals as goal

pub loop-at-init : goal.loop-at-init
unfolding run answers
loop-at-init g c =
    let start : Held = held c.args.job.now c.args.classes.now c.args.speeds.now in
    (staying (whole_of start) start refl, refl)

pub loop-at-preserved : goal.loop-at-preserved
loop-at-preserved g c =
    let a = g.C.Limit.number c.args.limits.now.classes.now in
    let b = g.S.Limit.number c.args.limits.now.speeds.now in
    let σ : Setting = setting c.args.job.now.samples.count a b in
    let start : Held = held c.args.job.now c.args.classes.now c.args.speeds.now in
    let here : Held = held c.loop-at.job c.loop-at.classes c.loop-at.speeds in
    let next : Held = held c.perform.new.job c.perform.new.classes c.perform.new.speeds in
    let w : Job = whole_of start in
    let i = c.loop-at.invariant in
    let at = c.loop-at.at in
    let calls = take c.min.result c.args.calls.now in
    let old = c.args.answers.now in
    let cs = take at calls in
    let this : Call = get_or calls at (Advance 0) in
    let x = c.perform.result in
    let roomy = sym c.in_ok-ask_room.ensures.is in
    let long = length-take-le c.min.result c.args.calls.now (omega arith) in
    let in-calls : at < length calls = omega arith in
    let in-old : at < length old = omega arith in
    let more = take_more calls at (Advance 0) in-calls in (
      subst (λ l. Holds (run σ l w) start next) (sym more) (holds_more a b start here next cs this x roomy i.0 c.perform.ensures),
      (ap (λ l. set l at x) i.1 ∙ fill_more (answers σ cs w) old at x (length-answers σ cs w ∙ length-take-le at calls (omega arith)) in-old
          ∙ ap (λ y. (answers σ cs w ++ (y ∷ [])) ++ drop (at + 1) old) (answer_more a b start here next cs this x roomy i.0 c.perform.ensures)
          ∙ ap (λ l. l ++ drop (at + 1) old) (sym (answers_more σ cs this w)) ∙ ap (λ l. answers σ l w ++ drop (at + 1) old) (sym more)),
    )

pub returns-in_err-ask_room : goal.returns-in_err-ask_room
returns-in_err-ask_room g c =
    let a = g.C.Limit.number c.args.limits.now.classes.now in
    let b = g.S.Limit.number c.args.limits.now.speeds.now in
    let h : Held = held c.args.job.now c.args.classes.now c.args.speeds.now in
    let old = c.args.answers.now in
    let calls = placed c.args.calls.now old in
    let r = c.from_residual.result in
    let runs : Runs a b calls h h old old r =
    runs_refused a b h calls old r c.in_err-ask_room.field-0.0 c.from_residual.ensures.1 c.in_err-ask_room.ensures.is in
    record { runs = runs; law = lawful_run a b c.lawful.ensures c.lawful-2.ensures calls h h old old r runs }

pub returns : goal.returns
returns g c =
    let a = g.C.Limit.number c.args.limits.now.classes.now in
    let b = g.S.Limit.number c.args.limits.now.speeds.now in
    let i = c.loop-at.invariant in
    let start : Held = held c.args.job.now c.args.classes.now c.args.speeds.now in
    let σ : Setting = setting c.args.job.now.samples.count a b in
    let w : Job = whole_of start in
    let here : Held = held c.loop-at.job c.loop-at.classes c.loop-at.speeds in
    let old = c.args.answers.now in
    let new = c.loop-at.answers in
    let at = c.loop-at.at in
    let made = take c.min.result c.args.calls.now in
    let calls = placed c.args.calls.now old in
    let through : at ≡ length made = omega arith in
    let all = take_all at made (omega arith) in
    let runs : Runs a b calls start here old new (Ok (length made)) =
    subst (λ l. Runs a b l start here old new (Ok (length made))) (placed_are c.args.calls.now old c.min.result (omega arith))
    (runs_all a b start here made old new (sym c.in_ok-ask_room.ensures.is) (subst (λ l. Holds (run σ l w) start here) all i.0)
    (i.1 ∙ ap (λ l. answers σ l w ++ drop at old) all ∙ ap (λ k. answers σ made w ++ drop k old) through)) in
    record { runs = runs; law = lawful_run a b c.lawful.ensures c.lawful-2.ensures calls start here old new (Ok (length made)) runs }
