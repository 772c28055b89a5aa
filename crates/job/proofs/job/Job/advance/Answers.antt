use Rattle.std.proofs.Common.{◌++◌, drop, Ok, ap, ◌∙◌}
use Rattle.std.proofs.lemmas.List.{length-take-le}
use Rattle.runs.specs.declared.call.Call.{Call}
use Rattle.runs.specs.declared.call.Call.TheVariants.{Advance}
use Rattle.runs.specs.declared.reply.Reply.TheVariants.{Advanced}
use Rattle.runs.specs.Answers.{Answer}
use Rattle.runs.specs.Calls.{acted, replied}
use Rattle.job.specs.Holding.{Held, held}
use Rattle.job.specs.Calling.{Does, told}
use Rattle.job.proofs.Acting.{refused_is, acts}
use Rattle.job.proofs.Lawful.{lawful_call}
use Rattle.job.proofs.job.Job.advance.Goals as goal

pub returns-in_err-ask : goal.returns-in_err-ask
returns-in_err-ask g c =
    let a = g.C.Limit.number c.args.limits.now.classes.now in
    let b = g.S.Limit.number c.args.limits.now.speeds.now in
    let call : Call = Advance c.args.allowance in
    let h : Held = held c.args.self.now c.args.classes.now c.args.speeds.now in
    let x : Answer = told c.from_residual.result in
    let does : Does a b call h h x =
    refused_is a b call h (λ p. Advanced p) c.from_residual.result c.in_err-ask.field-0.0 c.from_residual.ensures.1 (c.in_err-ask.ensures.is a b) in
    record { does = does; law = lawful_call a b c.lawful.ensures c.lawful-2.ensures call h h x does }

pub returns : goal.returns
unfolding acted replied
returns g c =
    let a = g.C.Limit.number c.args.limits.now.classes.now in
    let b = g.S.Limit.number c.args.limits.now.speeds.now in
    let call : Call = Advance c.args.allowance in
    let work = c.work.ensures in
    let j = c.args.self.now in
    let classes = c.args.classes.now in
    let speeds = c.args.speeds.now in
    let n = j.samples.count in
    let fit = c.in_ok-ask.ensures.room in
    let h : Held = held j classes speeds in
    let h' : Held = held c.work.new.self (c.work.new.classes ++ drop n classes) (c.work.new.speeds ++ drop n speeds) in
    let x : Answer = Ok (Advanced c.work.result) in
    let does : Does a b call h h' x =
    acts a b call j classes speeds (c.in_ok-ask.ensures.is a b) fit.0 fit.1 c.work.new.self work.samples x
    c.work.new.classes c.work.new.speeds (c.work.auto.classes ∙ length-take-le n classes fit.0) (c.work.auto.speeds ∙ length-take-le n speeds fit.1)
    work.came.0 (ap (λ p. Ok (Advanced p)) work.came.1) in
    record { does = does; law = lawful_call a b c.lawful.ensures c.lawful-2.ensures call h h' x does }
