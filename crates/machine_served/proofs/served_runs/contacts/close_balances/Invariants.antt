use Rattle.std.proofs.Common.{◌≡◌, ◌||◌}
use Rattle.hubs.specs.declared.hub.Hub.{Hub}
use Rattle.net.specs.HubSets.{has_hub}
use Rattle.machine_served.specs.ServedRuns.Contacts.{balances_to}
use Rattle.machine_served.proofs.served_runs.contacts.close_balances.Given as goal

-- the contacts of the positions so far are closed
abbrev pub invariant-loop-position : goal.invariant-loop-position
invariant-loop-position l =
    (hub : Hub) → has_hub l.contacts hub ≡ (has_hub l.fn.contacts hub || balances_to l.position l.unit l.latch hub)
