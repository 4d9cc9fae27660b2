use Rattle.report_writer.proofs.Opens.{open_grows}
use Rattle.report_writer.proofs.laws.open_grows.Goals as goal

pub returns : goal.returns
returns c = open_grows
