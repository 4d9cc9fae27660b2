use Rattle.proof_cycles.proofs.TotalsWords.CounterCycles.ShownLemmas.{digits-tell}
use Rattle.proof_cycles.proofs.totals.counter_cycles.laws.digits_and_numbers.Goals as goal

pub returns : goal.returns
returns c = digits-tell
