use Rattle.std.proofs.Common.{Ok, refl}
use Rattle.grade.specs.Ranks.{class_rank, speed_rank}
use Rattle.runs.specs.declared.call.Call.TheVariants.{Look}
use Rattle.runs.specs.declared.reply.Reply.TheVariants.{Seen}
use Rattle.runs.specs.declared.reply.Sight.{Sight}
use Rattle.runs.specs.Calls.{acted, replied}
use Rattle.sweep.proofs.Reading.{front_value}
use Rattle.job.specs.Holding.{Held, held, whole_of}
use Rattle.job.proofs.Acting.{staying, does}
use Rattle.job.proofs.Lawful.{promised, promised_refused}
use Rattle.job.proofs.job.Job.look.Goals as goal

pub returns-in_err-ask : goal.returns-in_err-ask
returns-in_err-ask c =
    promised_refused (Look c.args.sample) c.args.self.now c.args.classes.now c.args.speeds.now (λ s. Seen s) c.from_residual.result c.in_err-ask.field-0.0 c.from_residual.ensures.1
    c.in_err-ask.ensures.is

pub returns : goal.returns
unfolding acted replied
returns c =
    let i = c.args.sample in
    let h : Held = held c.args.self.now c.args.classes.now c.args.speeds.now in
    let room = c.in_ok-ask.ensures.room in
    let below = c.in_ok-ask.ensures.range in
    let class = front_value class_rank h.classes i h.job.samples.count c.index-classes-sample.result below room.0 in
    let speed = front_value speed_rank h.speeds i h.job.samples.count c.index-speeds-sample.result below room.1 in
    let x : Sight = record { stage = h.job.stage; class = c.rank.result; speed = c.rank-2.result } in
    promised (Look i) h h (Ok (Seen x)) (λ a b. does a b (Look i) h.job h.classes h.speeds (c.in_ok-ask.ensures.is a b) h (Ok (Seen x)) (staying (whole_of h) h refl) (cc))
