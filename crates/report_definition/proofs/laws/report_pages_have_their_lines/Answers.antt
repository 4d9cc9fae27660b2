use Rattle.report_definition.proofs.PageBytes.{report_pages_have_lines}
use Rattle.report_definition.proofs.laws.report_pages_have_their_lines.Goals as goal

pub returns : goal.returns
returns c = report_pages_have_lines
