use Rattle.report_definition.proofs.Runs.{longest_runs}
use Rattle.report_definition.proofs.laws.groups_are_longest_runs.Goals as goal

pub returns : goal.returns
returns c = longest_runs
