-- One call more at each turn, and then all of them.
use Rattle.std.proofs.Common.{◌≡◌, ◌+◌, ◌<◌, [], ◌∷◌, ◌++◌, length, get_or, take, drop, set, sym, refl, ap, ◌∙◌, subst, arith}
use Rattle.std.proofs.lemmas.List.{take_more, take_all, length-take-le}
use Rattle.frame.specs.Views.{path_of}
use Rattle.sources.specs.Sources.{class_number, speed_number}
use Rattle.runs.specs.Settings.{Setting}
use Rattle.runs.specs.Jobs.{Job}
use Rattle.runs.specs.Runs.{run}
use Rattle.job.specs.Calling.{Holds}
use Rattle.job.specs.Holding.{Held, held, setting_of, whole_of}
use Rattle.job.proofs.Acting.{staying}
use Rattle.sequence.proofs.Folding.{fill_more}
use Rattle.furqyzet_c.specs.declared.call_words.CallWords.{CallWords}
use Rattle.furqyzet_c.specs.Answers.{replies}
use Rattle.furqyzet_c.specs.Calls.{call_in, calls_in}
use Rattle.furqyzet_c.specs.Performing.{Performs}
use Rattle.furqyzet_c.proofs.Folding.{calls_more, replies_more, length-replies, acts_more, acts_replied, placed_are, lawful_all}
use Rattle.furqyzet_c.proofs.running.perform_calls.Goals as goal

pub loop-at-init : goal.loop-at-init
unfolding run replies calls_in
loop-at-init c =
    let start : Held = held c.args.job.now c.args.classes.now c.args.speeds.now in
    (staying (whole_of start) start refl, refl)

pub loop-at-preserved : goal.loop-at-preserved
loop-at-preserved c =
    let a = class_number (path_of c.args.frame.bytes.now) in
    let b = speed_number (path_of c.args.frame.bytes.now) in
    let start : Held = held c.args.job.now c.args.classes.now c.args.speeds.now in
    let here : Held = held c.loop-at.job c.loop-at.classes c.loop-at.speeds in
    let next : Held = held c.perform_call.new.job c.perform_call.new.classes c.perform_call.new.speeds in
    let σ : Setting = setting_of a b start in
    let w : Job = whole_of start in
    let i = c.loop-at.invariant in
    let at = c.loop-at.at in
    let calls = take c.min.result c.args.calls.now in
    let old = c.args.answers.now in
    let ws = take at calls in
    let none : CallWords = record { sample = 0; value = 0; kind = 0; make = 0 } in
    let this : CallWords = get_or calls at none in
    let x = c.perform_call.result in
    let long = length-take-le c.min.result c.args.calls.now (omega arith) in
    let in-calls : at < length calls = omega arith in
    let in-old : at < length old = omega arith in
    let more = take_more calls at none in-calls in
    let all = ap calls_in more ∙ calls_more ws this in (
      subst (λ l. Holds (run σ l w) start next) (sym all) (acts_more a b start here next (calls_in ws) c.requires i.0 (call_in this) x c.perform_call.ensures),
      (ap (λ l. set l at x) i.1 ∙ fill_more (replies σ ws w) old at x (length-replies σ ws w ∙ length-take-le at calls (omega arith)) in-old
          ∙ ap (λ y. (replies σ ws w ++ (y ∷ [])) ++ drop (at + 1) old) (acts_replied a b start here next (calls_in ws) c.requires i.0 (call_in this) x c.perform_call.ensures)
          ∙ ap (λ l. l ++ drop (at + 1) old) (sym (replies_more σ ws this w)) ∙ ap (λ l. replies σ l w ++ drop (at + 1) old) (sym more)),
    )

pub returns : goal.returns
returns c =
    let a = class_number (path_of c.args.frame.bytes.now) in
    let b = speed_number (path_of c.args.frame.bytes.now) in
    let i = c.loop-at.invariant in
    let laws = c.lawful_limits.ensures in
    let start : Held = held c.args.job.now c.args.classes.now c.args.speeds.now in
    let here : Held = held c.loop-at.job c.loop-at.classes c.loop-at.speeds in
    let σ : Setting = setting_of a b start in
    let w : Job = whole_of start in
    let old = c.args.answers.now in
    let at = c.loop-at.at in
    let made = take c.min.result c.args.calls.now in
    let long = length-take-le c.min.result c.args.calls.now (omega arith) in
    let through : at ≡ length made = omega arith in
    let all = take_all at made (omega arith) in
    let holds : Holds (run σ (calls_in made) w) start here = subst (λ l. Holds (run σ (calls_in l) w) start here) all i.0 in
    subst (λ l. Performs a b l start here old c.loop-at.answers) (placed_are c.args.calls.now old c.min.result (omega arith))
    (record {
      holds = holds;
      law = lawful_all a b laws.classes laws.speeds (calls_in made) start here holds;
      answered = i.1 ∙ ap (λ l. replies σ l w ++ drop at old) all ∙ ap (λ k. replies σ made w ++ drop k old) through;
    })
