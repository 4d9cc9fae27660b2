use Rattle.std.specs.Prelude.{◌≡◌, map, take}
use Rattle.explain_ledgers.specs.LedgersWords.SoughtLines.{unfound}
use Rattle.explain_ledgers.proofs.ledgers.found.all_unfound.Given as goal

-- the lines so far
abbrev pub invariant-loop-at : goal.invariant-loop-at
invariant-loop-at l = l.sought.items ≡ map unfound (take l.at-index l.places)
