use Rattle.machine.proofs.RunsInFeeds.{feeds-cut-runs}
use Rattle.machine.proofs.laws.feeds_cut_runs.Goals as goal

pub returns : goal.returns
returns c = feeds-cut-runs
