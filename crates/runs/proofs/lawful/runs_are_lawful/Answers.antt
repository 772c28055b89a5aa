use Rattle.runs.proofs.Law.{runs_lawful}
use Rattle.runs.proofs.lawful.runs_are_lawful.Goals as goal

pub returns : goal.returns
returns c = runs_lawful
