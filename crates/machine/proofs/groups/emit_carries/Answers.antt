use Rattle.std.proofs.Common.{◌∙◌, ◌||◌, ap, ℕ}
use Rattle.hubs.specs.declared.hub.Hub.TheVariants.{CO}
use Rattle.net.specs.HubSets.{has_hub, is_in_row}
use Rattle.machine.proofs.Rest.{first_group}
use Rattle.machine.proofs.groups.emit_carries.Goals as goal

pub returns : goal.returns
returns c exit =
    c.insert_row.ensures exit
    ∙ ap (λ (n : ℕ). has_hub c.args.exits.now exit || is_in_row (CO first_group) n exit) c.from.ensures
