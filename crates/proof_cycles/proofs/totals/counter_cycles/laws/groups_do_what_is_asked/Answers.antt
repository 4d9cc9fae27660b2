use Rattle.proof_cycles.proofs.TotalsWords.CounterCycles.ActLemmas.{acts-done}
use Rattle.proof_cycles.proofs.totals.counter_cycles.laws.groups_do_what_is_asked.Goals as goal

pub returns : goal.returns
returns c = acts-done
