use Rattle.report_runs.proofs.Streams.{streams_go_on}
use Rattle.report_runs.proofs.laws.streams_go_on.Goals as goal

pub returns : goal.returns
returns c = streams_go_on
