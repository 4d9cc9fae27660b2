-- None of the kinds so far is written so.
use Rattle.std.proofs.Common.{◌≢◌, All, take}
use Rattle.hubs.specs.HubTable.HubTable.{row_of}
use Rattle.hubs.proofs.hub_table.letters.find_spelled.Given as goal

abbrev pub invariant-loop-letters : goal.invariant-loop-letters
invariant-loop-letters l = All (λ letters. (row_of letters).spelled ≢ l.token) (take l.letters-index l.kinds)
