use Rattle.std.proofs.Common.{take, refl, ap, ◌∙◌}
use Rattle.runs.specs.declared.call.Call.TheVariants.{Cut}
use Rattle.runs.specs.declared.reply.Reply.TheVariants.{Done}
use Rattle.runs.specs.declared.stage.Make.TheVariants.{Classes}
use Rattle.runs.specs.Sheets.{Sheets}
use Rattle.runs.specs.Jobs.{job}
use Rattle.runs.specs.Calls.{acted, replied, cut}
use Rattle.job.specs.Whole.{sheets_of}
use Rattle.job.proofs.Lawful.{promised_refused, class_changed}
use Rattle.job.proofs.job.Job.class_cut.Goals as goal

pub returns-in_err-ask : goal.returns-in_err-ask
returns-in_err-ask c =
    promised_refused (Cut Classes c.args.sample c.args.value) c.args.self.now c.args.classes.now c.args.speeds.now (λ _. Done) c.from_residual.result c.in_err-ask.field-0.0
    c.from_residual.ensures.1 c.in_err-ask.ensures.is

pub returns : goal.returns
unfolding acted replied
returns c =
    let j = c.args.self.now in
    let n = j.samples.count in
    let i = c.args.sample in
    let S : Sheets = sheets_of (take n c.args.classes.now) (take n c.args.speeds.now) in
    class_changed (Cut Classes i c.args.value) j c.cut.new.self c.args.classes.now c.args.speeds.now c.in_ok-ask.ensures.is c.in_ok-ask.ensures.room c.cut.ensures.samples (λ _ _. refl)
    c.cut.new.cells c.cut.auto.cells (λ a b. c.cut.ensures.cut S refl ∙ ap (λ v. cut Classes i v (job j.stage j.sweep S)) c.of_rank-to.ensures)
