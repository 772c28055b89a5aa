use Rattle.std.proofs.Common.{◌≡◌, ℕ, true, ◌+◌, ◌-◌, sym, ap, subst, ◌∙◌, arith}
use Rattle.limit.specs.Numbers.{Number}
use Rattle.runs.specs.Settings.{Setting}
use Rattle.runs.specs.Sheets.{Sheets}
use Rattle.runs.specs.Jobs.{Job}
use Rattle.runs.specs.Calls.{Course, progress, advanced}
use Rattle.job.specs.Steps.{at_work_of, stepped, fallen}
use Rattle.job.specs.Whole.{whole, sheets_of, setting, course}
use Rattle.job.proofs.Fuel.{plus, falls_one, advanced_further, advanced_rests, advanced_used}
use Rattle.job.proofs.job.Job.work.Goals as goal
use Rattle.job.proofs.job.Job.work.Goals.{then-loop-evaluations-test+else-at_work, else-loop-evaluations-test}

pub loop-evaluations-preserved : goal.loop-evaluations-preserved
loop-evaluations-preserved g c =
    let i = c.loop-evaluations.invariant in
    let a : Number = g.C.Limit.number c.args.limits.now.classes.now in
    let b : Number = g.S.Limit.number c.args.limits.now.speeds.now in
    let σ : Setting = setting c.args.self.now.samples.count a b in
    let j : Job = whole c.loop-evaluations.self c.loop-evaluations.classes c.loop-evaluations.speeds in
    let t = c.go_on-inner.new.self.stage in
    let w = c.go_on-inner.new.self.sweep in
    let S : Sheets = sheets_of c.go_on-inner.new.classes c.go_on-inner.new.speeds in
    let k = c.args.allowance in
    let e = c.loop-evaluations.evaluations in
    let l = c.loop-evaluations.lowerings in
    let v = c.go_on-inner.result.evaluations in
    let x = c.go_on-inner.result.lowerings in
    let went = c.go_on-inner.ensures in
    let samples = went.samples ∙ i.2 in
    let on : at_work_of t ≡ true = ap at_work_of went.stage ∙ sym c.at_work.ensures ∙ c.if-at_work.true in
    let j' : Job = whole c.go_on-inner.new.self c.go_on-inner.new.classes c.go_on-inner.new.speeds in
    let goes : ((n : ℕ) → advanced σ (v + n) j ≡ plus v x (advanced σ n j')) =
    λ n. subst (λ s. advanced (setting s.count a b) (v + n) j ≡ plus v x (advanced (setting s.count a b) n j')) i.2 (went.went n) in
    let stepped' = c.step.ensures.stepped ∙ ap (λ s. stepped (setting s.count a b) t w S) samples in
    let fallen' = c.step.ensures.fallen ∙ ap (λ s. fallen (setting s.count a b) t w S) samples in (
      omega (arith, fallen', falls_one σ t w S, went.fewer),
      omega (arith, went.most),
      c.step.ensures.samples ∙ samples,
      (ap (λ y. plus (e + (v + 1)) (l + (x + y)) (advanced σ (k - (e + (v + 1))) (whole c.step.new.self c.step.new.classes c.step.new.speeds))) fallen'
          ∙ ap (λ j. plus (e + (v + 1)) (l + (x + fallen σ t w S)) (advanced σ (k - (e + (v + 1))) j)) stepped'
          ∙ sym (advanced_further σ k e l v x j t w S (omega (arith, went.most)) on goes) ∙ i.3),
    )

pub returns-clause-came : goal.returns-clause-came
returns-clause-came g c =
    let i = c.loop-evaluations.invariant in
    let σ : Setting = setting c.args.self.now.samples.count (g.C.Limit.number c.args.limits.now.classes.now) (g.S.Limit.number c.args.limits.now.speeds.now) in
    let j : Job = whole c.loop-evaluations.self c.loop-evaluations.classes c.loop-evaluations.speeds in
    let k = c.args.allowance in
    let e = c.loop-evaluations.evaluations in
    let l = c.loop-evaluations.lowerings in
    let whole_of : Course = advanced σ k (whole c.args.self.now c.args.classes.now c.args.speeds.now) in
    let came : course j e l ≡ whole_of =
    elim c.loop-evaluations-test.branch [
      | then-loop-evaluations-test+else-at_work w ↦ advanced_rests σ (k - e) e l j.stage j.sweep j.sheets (sym w.at_work.ensures ∙ w.if-at_work.false) ∙ i.3
      | else-loop-evaluations-test w ↦ advanced_used σ k e l j (omega arith) ∙ i.3
    ] in
    (ap (λ p. p.job) came, ap progress came)
