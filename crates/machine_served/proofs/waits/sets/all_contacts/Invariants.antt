use Rattle.std.proofs.Common.{◌≡◌, ◌&&◌, true}
use Rattle.hubs.specs.declared.hub.Hub.{Hub}
use Rattle.net.specs.HubSets.{has_hub}
use Rattle.machine_served.proofs.WaitsWords.Below.{is_below}
use Rattle.machine_served.proofs.waits.sets.all_contacts.Given as goal

abbrev pub invariant-loop-number : goal.invariant-loop-number
invariant-loop-number l = (hub : Hub) → has_hub l.contacts hub ≡ (is_below l.number hub && true)
