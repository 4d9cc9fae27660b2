use Rattle.report_definition.proofs.PrintCharacters.{report_lines_print}
use Rattle.report_definition.proofs.laws.report_lines_print.Goals as goal

pub returns : goal.returns
returns c = report_lines_print
