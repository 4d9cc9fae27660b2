use Rattle.proof_cycles.proofs.TotalsWords.CounterCycles.AskLemmas.{all-asked}
use Rattle.proof_cycles.proofs.totals.counter_cycles.laws.everything_can_be_asked.Goals as goal

pub returns : goal.returns
returns c = all-asked
