use Rattle.std.proofs.Common.{◌≡◌, ℕ, ◌<◌, true, Some}
use Rattle.hubs.specs.Hubs.{number_of}
use Rattle.hubs.specs.declared.hub.Group.{Group}
use Rattle.hubs.specs.declared.hub.Hub.TheVariants.{CO}
use Rattle.hubs.specs.SetupsWords.CarryWires.{stands_beside}
use Rattle.hubs.proofs.setups.setup.Setup.stands_with_all.Given as goal

-- the wire stands beside the groups so far
abbrev pub invariant-loop-number : goal.invariant-loop-number
invariant-loop-number l =
    (group : Group) (number : ℕ) → number_of (CO group) ≡ Some number → number < l.number
    → stands_beside l.self l.from l.to group ≡ true
