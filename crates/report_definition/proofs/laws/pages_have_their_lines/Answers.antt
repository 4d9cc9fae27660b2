use Rattle.report_definition.proofs.PageBytes.{pages_have_lines}
use Rattle.report_definition.proofs.laws.pages_have_their_lines.Goals as goal

pub returns : goal.returns
returns c = pages_have_lines
