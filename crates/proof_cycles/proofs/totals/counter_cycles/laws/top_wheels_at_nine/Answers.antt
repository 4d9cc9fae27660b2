use Rattle.proof_cycles.proofs.TotalsWords.CounterCycles.TopLemmas.{tops}
use Rattle.proof_cycles.proofs.totals.counter_cycles.laws.top_wheels_at_nine.Goals as goal

pub returns : goal.returns
returns c = tops
