use Rattle.report_writer.proofs.Opens.{order_goes_on}
use Rattle.report_writer.proofs.laws.order_goes_on.Goals as goal

pub returns : goal.returns
returns c = order_goes_on
