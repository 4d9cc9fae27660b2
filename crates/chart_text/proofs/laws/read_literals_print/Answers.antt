use Rattle.chart_text.proofs.ReadLiterals.{read_literals}
use Rattle.chart_text.proofs.laws.read_literals_print.Goals as goal

pub returns : goal.returns
returns c = read_literals
