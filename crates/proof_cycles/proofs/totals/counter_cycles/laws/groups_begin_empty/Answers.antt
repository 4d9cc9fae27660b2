use Rattle.proof_cycles.proofs.TotalsWords.CounterCycles.AskLemmas.{groups-begin}
use Rattle.proof_cycles.proofs.totals.counter_cycles.laws.groups_begin_empty.Goals as goal

pub returns : goal.returns
returns c = groups-begin
