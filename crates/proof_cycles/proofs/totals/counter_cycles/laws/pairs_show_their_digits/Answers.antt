use Rattle.proof_cycles.proofs.TotalsWords.CounterCycles.PairLemmas.{pairs-show}
use Rattle.proof_cycles.proofs.totals.counter_cycles.laws.pairs_show_their_digits.Goals as goal

pub returns : goal.returns
returns c = pairs-show
