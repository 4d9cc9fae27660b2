use Rattle.report_runs.proofs.Streams.{streams_begin}
use Rattle.report_runs.proofs.laws.streams_begin.Goals as goal

pub returns : goal.returns
returns c = streams_begin
