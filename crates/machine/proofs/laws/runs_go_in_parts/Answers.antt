use Rattle.machine.proofs.Parts.{LinesFrom-parts}
use Rattle.machine.proofs.laws.runs_go_in_parts.Goals as goal

pub returns : goal.returns
returns c = LinesFrom-parts
