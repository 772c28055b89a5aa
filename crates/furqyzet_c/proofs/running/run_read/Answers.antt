-- The job that is read, the room that is there, and the calls.
use Rattle.std.proofs.Common.{Some, refl, sym, ◌∙◌, subst}
use Rattle.job.specs.Holding.{held}
use Rattle.furqyzet_c.specs.Jobs.{Reads}
use Rattle.furqyzet_c.specs.Performing.{RunsIn, memory}
use Rattle.furqyzet_c.proofs.running.run_read.Goals as goal

pub returns : goal.returns
returns c =
    let done = c.perform_calls in
    let u = memory c.args.words.now c.args.classes.now c.args.speeds.now in
    let u' = memory c.of-2.result done.new.classes done.new.speeds in
    record {
      job = Some c.in-Some.job;
      reads = subst (Reads c.args.words.now) c.in-Some.is c.job.ensures;
      runs = subst (λ v. RunsIn c.args.frame.bytes.now v c.in-Some.job c.args.calls.now u u' c.args.answers.now done.new.answers c.of_number-2.result) (sym c.in_default-ask_room.is ∙ c.ask_room.ensures.is)
          (held done.new.job done.new.classes done.new.speeds, (c.of-2.ensures, refl, refl), c.of_number-2.ensures, done.ensures);
    }
