use Rattle.std.proofs.Common.{◌≡◌, ◌&&◌}
use Rattle.std.specs.Prelude.{◌==◌}
use Rattle.hubs.specs.declared.hub.Hub.{Hub}
use Rattle.net.specs.HubSets.{has_hub}
use Rattle.net.specs.Panel.{owner_of}
use Rattle.machine_served.proofs.WaitsWords.Below.{is_below}
use Rattle.machine_served.proofs.waits.sets.exits_of.Given as goal

abbrev pub invariant-loop-number : goal.invariant-loop-number
invariant-loop-number l = (hub : Hub) → has_hub l.exits hub ≡ (is_below l.number hub && (owner_of hub == l.unit))
