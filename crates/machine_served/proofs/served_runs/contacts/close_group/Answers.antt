use Rattle.std.proofs.Common.{◌≡◌, ◌∙◌, ◌||◌, ◌&&◌, ap, Bool, refl, false, true}
use Rattle.hubs.specs.declared.hub.Hub.TheVariants.{CO}
use Rattle.net.specs.Cycles.{is_closing}
use Rattle.net.specs.HubSets.{has_hub, is_hub}
use Rattle.net.specs.Panel.{unit_of}
use Rattle.machine_served.specs.ServedRuns.Contacts.{balances_to}
use Rattle.machine_served.proofs.ServedRuns.GroupContacts.{closes-all, unit_of-named}
use Rattle.machine_served.proofs.served_runs.contacts.close_group.Goals as goal

joined : (a b c : Bool) → ((a || b) || c) ≡ (a || (b || c))
joined true b c = refl
joined false b c = refl

pub returns-in-K : goal.returns-in-K
returns-in-K c cycle hub =
    let group = c.args.group.now in
    c.insert_where.ensures hub
    ∙ ap (λ b. b || (c.nines.result && is_hub (CO c.group_of_unit-name.result) hub)) (c.close_balances.ensures hub)
    ∙ joined (has_hub c.args.contacts.now hub) (balances_to 5 c.args.unit c.latch.result hub)
    (c.nines.result && is_hub (CO c.group_of_unit-name.result) hub)
    ∙ ap (λ b. has_hub c.args.contacts.now hub || b)
    (ap (λ l. balances_to 5 c.args.unit l hub || (c.nines.result && is_hub (CO c.group_of_unit-name.result) hub)) c.latch.ensures
    ∙ ap (λ n. balances_to 5 c.args.unit group.latch hub || (n && is_hub (CO c.group_of_unit-name.result) hub)) c.nines.ensures
    ∙ closes-all c.args.unit c.requires.from c.requires.to c.group_of_unit-name.result
    (ap unit_of c.group_of_unit-name.ensures ∙ unit_of-named c.args.unit c.requires.from c.requires.to)
    group cycle c.args.point hub c.requires.numbered (ap is_closing c.in-K.is))
