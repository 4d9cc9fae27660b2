use Rattle.report_writer.proofs.Opens.{open_grows_by_all}
use Rattle.report_writer.proofs.laws.open_grows_by_all.Goals as goal

pub returns : goal.returns
returns c = open_grows_by_all
