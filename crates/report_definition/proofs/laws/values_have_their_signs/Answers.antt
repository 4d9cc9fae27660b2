use Rattle.report_definition.proofs.ReadBack.{sizes, by_punch, by_absence}
use Rattle.report_definition.proofs.laws.values_have_their_signs.Goals as goal

pub returns-clause-punch : goal.returns-clause-punch
returns-clause-punch c = by_punch

pub returns-clause-absence : goal.returns-clause-absence
returns-clause-absence c = by_absence

pub returns-clause-size : goal.returns-clause-size
returns-clause-size c = sizes
