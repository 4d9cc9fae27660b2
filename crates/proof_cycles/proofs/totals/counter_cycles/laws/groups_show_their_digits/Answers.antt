use Rattle.proof_cycles.proofs.TotalsWords.CounterCycles.ShownLemmas.{groups-show}
use Rattle.proof_cycles.proofs.totals.counter_cycles.laws.groups_show_their_digits.Goals as goal

pub returns : goal.returns
returns c = groups-show
