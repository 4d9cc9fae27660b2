use Rattle.show_sums.proofs.SumSections.FoundSums.{AreFoundTo}
use Rattle.show_sums.proofs.sum_sections.sums.found_sums.Given as goal

-- the cycles of those so far
abbrev pub invariant-loop-k : goal.invariant-loop-k
invariant-loop-k l = AreFoundTo l.setup l.cards l.wanted l.k l.found.items
