use Rattle.chart_rules.proofs.Versions.{versions_are_lawful_alike}
use Rattle.chart_rules.proofs.outcomes.versions_are_lawful_alike.Goals as goal

pub returns : goal.returns
returns c = versions_are_lawful_alike
