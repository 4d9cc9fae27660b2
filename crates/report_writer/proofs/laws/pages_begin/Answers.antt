use Rattle.report_writer.proofs.Opens.{pages_begin}
use Rattle.report_writer.proofs.laws.pages_begin.Goals as goal

pub returns : goal.returns
returns c = pages_begin
