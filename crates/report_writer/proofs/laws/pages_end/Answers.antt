use Rattle.report_writer.proofs.Opens.{pages_end}
use Rattle.report_writer.proofs.laws.pages_end.Goals as goal

pub returns : goal.returns
returns c = pages_end
