use Rattle.report_runs.proofs.Streams.{streams_end}
use Rattle.report_runs.proofs.laws.streams_end.Goals as goal

pub returns : goal.returns
returns c = streams_end
