use Rattle.std.proofs.Common.{false}
use Rattle.print_unit.proofs.LeftNeighbours.{printed_from-controlled, printed_from-freely}
use Rattle.print_unit.proofs.laws.zero_control_looks_to_the_left.Goals as goal

pub returns-clause-controlled : goal.returns-clause-controlled
returns-clause-controlled c = λ wheels. printed_from-controlled wheels

pub returns-clause-free : goal.returns-clause-free
returns-clause-free c = λ wheels. printed_from-freely false wheels
