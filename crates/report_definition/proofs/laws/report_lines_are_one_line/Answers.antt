use Rattle.report_definition.proofs.PageBytes.{lines_are_one_line}
use Rattle.report_definition.proofs.laws.report_lines_are_one_line.Goals as goal

pub returns : goal.returns
returns c = lines_are_one_line
