use Rattle.std.proofs.Common.{ap, ◌∙◌, ◌++◌, length}
use Rattle.runs.specs.declared.stage.Make.TheVariants.{Speeds}
use Rattle.frame.specs.Views.{path_of}
use Rattle.sources.specs.Sources.{rows_of}
use Rattle.job.specs.Whole.{sheets_of}
use Rattle.binding.specs.Bounds.{allowed, plain_bounds, rows_from}
use Rattle.binding.specs.Questions.{first}
use Rattle.binding.proofs.Firsts.{speed_numbers}
use Rattle.binding.proofs.speeds.SpeedPlacePlace.first.Goals as goal

pub returns : goal.returns
returns c =
    let p = c.args.self in
    let bs = p.of_class.frame.bytes.now in
    let limits = c.speed_limit-limit.ensures in
    let f = allowed (path_of bs) (sheets_of p.of_class.classes.now p.speeds.now) Speeds p.of_class.at in
    c.first_in_speeds.ensures f
    (speed_numbers bs p.of_class.classes.now p.of_class.at c.cell-2.result c.cell-2.ensures _ c.top_speed-granted.ensures p.speeds.now c.cell.result c.cell.ensures _ _ _ limits.steps limits.offsets limits.rows)
    ∙ ap (λ b. first c.args.question f (plain_bounds ++ rows_from 0 (length (rows_of (path_of b))))) limits.rows
