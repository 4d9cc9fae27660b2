use Rattle.report_runs.proofs.OneCause.{texts_have_one_cause}
use Rattle.report_runs.proofs.laws.texts_have_one_cause.Goals as goal

pub returns : goal.returns
returns c = texts_have_one_cause
