use Rattle.wiring_legend.proofs.Whole.{of-lines}
use Rattle.wiring_legend.proofs.laws.lines_make_the_setup.Goals as goal

pub returns : goal.returns
returns c = of-lines
