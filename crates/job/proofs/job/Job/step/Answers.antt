use Rattle.std.proofs.Common.{◌≡◌, ap, ◌∙◌, rules}
use Rattle.runs.specs.declared.stage.Make.TheVariants.{Classes, Speeds}
use Rattle.runs.specs.declared.stage.Stage.TheVariants.{Working}
use Rattle.runs.specs.Sheets.{Sheets}
use Rattle.runs.specs.Settings.{Setting}
use Rattle.runs.specs.Evaluations.{finding, lowering}
use Rattle.job.specs.Whole.{sheets_of, setting}
use Rattle.job.proofs.Evaluating.{steps, falls}
use Rattle.job.proofs.job.Job.step.Goals as goal

pub returns-in-Working-Classes : goal.returns-in-Working-Classes
unfolding finding
returns-in-Working-Classes g c =
    let at-work : c.args.self.now.stage ≡ Working Classes = search rules in
    let σ : Setting = setting c.args.self.now.samples.count (g.C.Limit.number c.args.limits.now.classes.now) (g.S.Limit.number c.args.limits.now.speeds.now) in
    let w = c.args.self.now.sweep in
    let S : Sheets = sheets_of c.args.classes.now c.args.speeds.now in
    let S' : Sheets = sheets_of c.sweep_step-step.new.cells c.args.speeds.now in
    let v = c.sweep_step-step.ensures in
    record {
      samples = c.follow.ensures.samples;
      stepped = steps σ Classes _ w S S' _ _ at-work c.requires.0 v.at _ _ v.outcome (ap (λ s. record { classes = s; speeds = S.speeds }) v.sheet) (c.follow.ensures.follows (σ.number Classes) (σ.number Speeds));
      fallen = c.lowerings.ensures ∙ ap lowering v.finding ∙ falls σ Classes _ w S S' _ _ at-work c.requires.0 v.at;
    }

pub returns-in-Working-Speeds : goal.returns-in-Working-Speeds
unfolding finding
returns-in-Working-Speeds g c =
    let at-work : c.args.self.now.stage ≡ Working Speeds = search rules in
    let σ : Setting = setting c.args.self.now.samples.count (g.C.Limit.number c.args.limits.now.classes.now) (g.S.Limit.number c.args.limits.now.speeds.now) in
    let w = c.args.self.now.sweep in
    let S : Sheets = sheets_of c.args.classes.now c.args.speeds.now in
    let S' : Sheets = sheets_of c.args.classes.now c.sweep_step-step-in-Working-Speeds.new.cells in
    let v = c.sweep_step-step-in-Working-Speeds.ensures in
    record {
      samples = c.follow-in-Working-Speeds.ensures.samples;
      stepped = steps σ Speeds _ w S S' _ _ at-work c.requires.1 v.at _ _ v.outcome (ap (λ s. record { classes = S.classes; speeds = s }) v.sheet) (c.follow-in-Working-Speeds.ensures.follows (σ.number Classes) (σ.number Speeds));
      fallen = c.lowerings-in-Working-Speeds.ensures ∙ ap lowering v.finding ∙ falls σ Speeds _ w S S' _ _ at-work c.requires.1 v.at;
    }
