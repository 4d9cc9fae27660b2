use Rattle.std.proofs.Common.{◌+◌}
use Rattle.std.specs.Prelude.{if◌then◌else◌}
use Rattle.machine_sets.proofs.BitSets.SearchLemmas.{IsSearching, missing_below}
use Rattle.machine_sets.proofs.bit_sets.search.reach.Given as goal

abbrev pub invariant-loop-has_new : goal.invariant-loop-has_new
invariant-loop-has_new l = IsSearching l.rows l.runs l.fn.words l.closed l.words l.has_new

abbrev pub decreases-loop-has_new : goal.decreases-loop-has_new
decreases-loop-has_new l = missing_below l.words 1984 + (if l.has_new then 1 else 0)
