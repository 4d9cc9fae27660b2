use Rattle.carriage.proofs.StopSteps.{next_stop-tells, next_stop-none_tells}
use Rattle.carriage.proofs.laws.skips_go_to_the_next_stop_below.Goals as goal

pub returns-clause-found : goal.returns-clause-found
returns-clause-found c = λ form channel line stop. next_stop-tells form channel line stop

pub returns-clause-none : goal.returns-clause-none
returns-clause-none c = λ form channel line. next_stop-none_tells form channel line
