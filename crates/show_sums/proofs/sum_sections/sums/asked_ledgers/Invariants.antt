use Rattle.std.specs.Prelude.{◌≡◌, map, take}
use Rattle.show_sums.specs.SumSections.WantedSums.{asked_for}
use Rattle.show_sums.proofs.sum_sections.sums.asked_ledgers.Given as goal

-- what those so far ask for
abbrev pub invariant-loop-one : goal.invariant-loop-one
invariant-loop-one l = l.asked.items ≡ map (asked_for l.totals) (take l.one-index l.found)
