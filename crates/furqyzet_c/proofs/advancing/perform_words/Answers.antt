-- The job that is read, the call on it, and its words.
use Rattle.std.proofs.Common.{Some, refl, ap, ◌∙◌, subst}
use Rattle.sources.specs.Sources.{class_number, speed_number}
use Rattle.job.specs.Holding.{Held, held}
use Rattle.furqyzet_c.specs.Answers.{answer_words}
use Rattle.furqyzet_c.specs.Jobs.{Reads}
use Rattle.furqyzet_c.specs.Performing.{Acts}
use Rattle.furqyzet_c.proofs.advancing.perform_words.Goals as goal

pub returns : goal.returns
returns g c =
    let call = c.call-answer in
    let p = g.F.JobFrame.path c.args.frame in
    let h : Held = held c.in-Some.job c.args.classes.now c.args.speeds.now in
    let h' : Held = held call.new.job call.new.classes call.new.speeds in
    let acts : Acts (class_number p) (speed_number p) c.args.call h h' c.of-2.result = record {
      answer = call.result;
      does = call.ensures.does;
      law = call.ensures.law;
      words = c.of-2.ensures ∙ ap (answer_words call.result) c.stage.ensures;
    } in
    record {
      job = Some c.in-Some.job;
      reads = subst (Reads c.args.words.now) c.in-Some.is c.job.ensures;
      acts = (h', (c.of.ensures, refl, refl), acts);
    }
