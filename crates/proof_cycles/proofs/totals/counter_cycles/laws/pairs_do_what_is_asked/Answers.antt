use Rattle.proof_cycles.proofs.TotalsWords.CounterCycles.PairLemmas.{pairs-done}
use Rattle.proof_cycles.proofs.totals.counter_cycles.laws.pairs_do_what_is_asked.Goals as goal

pub returns : goal.returns
returns c = pairs-done
