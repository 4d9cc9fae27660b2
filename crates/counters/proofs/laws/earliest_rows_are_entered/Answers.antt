use Rattle.counters.proofs.EarliestRows.{earliest-entered}
use Rattle.counters.proofs.laws.earliest_rows_are_entered.Goals as goal

pub returns : goal.returns
returns c = earliest-entered
