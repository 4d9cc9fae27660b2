use Rattle.report_runs.proofs.Feeding.{feeds_in_order}
use Rattle.report_runs.proofs.laws.feeds_place_in_order.Goals as goal

pub returns : goal.returns
returns c = feeds_in_order
