-- The law holds after every sequence of calls.
use Rattle.std.proofs.Common.{◌≡◌, List}
use Rattle.runs.specs.declared.call.Call.{Call}
use Rattle.runs.specs.declared.stage.Stage.TheVariants.{Settled}
use Rattle.runs.specs.Settings.{Setting, SettingLaw}
use Rattle.runs.specs.Jobs.{Job}
use Rattle.runs.specs.Making.{Start, StartLaw}
use Rattle.runs.specs.InForce.{in_force}
use Rattle.runs.specs.Keeping.{Greatest, own, bounds_in}
use Rattle.runs.specs.Runs.{after}
use Rattle.runs.specs.Law.{RunsLawful}
use Rattle.runs.proofs.Runs.{run_settled, run_impossible, run_found, run_holds, run_between, run_above, run_ends, run_spends}
use Rattle.runs.proofs.Calling.{look_shows}
use Rattle.runs.proofs.Alike.{greatest_same, runs_alike}

run_held : (σ : Setting) → SettingLaw σ → (s : Start) → StartLaw σ s → (cs : List Call) → (after σ s cs).stage ≡ Settled
    → Greatest σ (bounds_in (after σ s cs).sheets) (own (after σ s cs).sheets)
run_held σ law s start cs e =
    let j : Job = after σ s cs in
    greatest_same σ (in_force σ s cs) (bounds_in j.sheets) (run_holds σ law s start cs) (own j.sheets)
    (run_settled σ law s start cs e)

pub runs_lawful : RunsLawful
runs_lawful σ law s start cs = record {
  settled = run_settled σ law s start cs;
  impossible = run_impossible σ law s start cs;
  found = run_found σ law s start cs;
  holds = run_holds σ law s start cs;
  between = run_between σ law s start cs;
  above = run_above σ law s start cs;
  held = run_held σ law s start cs;
  ends = run_ends σ law s start cs;
  spends = λ before k p last. run_spends σ law s start before k p;
  shows = look_shows σ (after σ s cs);
  alike = λ s' start' cs'. runs_alike σ law s s' start start' cs cs';
}
