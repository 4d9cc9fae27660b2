-- None of the kinds so far has a hub of the number.
use Rattle.std.proofs.Common.{All, take}
use Rattle.hubs.specs.HubTable.HubTable.{HasNumber}
use Rattle.hubs.proofs.hub_table.letters.find_number.Given as goal

abbrev pub invariant-loop-letters : goal.invariant-loop-letters
invariant-loop-letters l = All (λ letters. ¬ HasNumber letters l.number) (take l.letters-index l.kinds)
