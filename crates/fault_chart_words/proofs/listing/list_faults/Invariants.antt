use Rattle.fault_chart_words.proofs.Steps.{ListedTo}
use Rattle.fault_chart_words.proofs.listing.list_faults.Given as goal

abbrev pub invariant-loop-place : goal.invariant-loop-place
invariant-loop-place l = ListedTo l.raw l.place l.list.items
