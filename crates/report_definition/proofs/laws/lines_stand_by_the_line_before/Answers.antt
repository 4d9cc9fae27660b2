use Rattle.report_definition.proofs.LinePlaces.{lines_stand}
use Rattle.report_definition.proofs.laws.lines_stand_by_the_line_before.Goals as goal

pub returns : goal.returns
returns c = lines_stand
