use Rattle.report_runs.proofs.Streams.{streams_of_none}
use Rattle.report_runs.proofs.laws.streams_may_have_no_card.Goals as goal

pub returns : goal.returns
returns c = streams_of_none
