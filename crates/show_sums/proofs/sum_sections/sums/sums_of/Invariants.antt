use Rattle.std.specs.Prelude.{◌≡◌, All, drop, map, take}
use Rattle.std.specs.List.{AllZip}
use Rattle.explain_ledgers.specs.LedgersWords.Running.{IsKept, asked_of}
use Rattle.show_sums.specs.SumSections.WantedSums.{IsSumFor, asked_for, wanted_of}
use Rattle.show_sums.proofs.sum_sections.sums.sums_of.Given as goal

-- the sums so far, and the ledgers of the others
abbrev pub invariant-loop-one : goal.invariant-loop-one
invariant-loop-one l = record {
  sums : AllZip (IsSumFor l.setup l.totals l.cards) (map wanted_of (take l.one-index l.found)) l.sums.items;
  asked : map asked_of l.kept.items ≡ map (asked_for l.totals) (drop l.one-index l.found);
  kept : All (IsKept l.setup l.cards 100) l.kept.items;
}
