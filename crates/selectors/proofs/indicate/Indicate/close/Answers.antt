use Rattle.std.proofs.Common.{◌∙◌, ◌||◌, ap, sym}
use Rattle.hubs.specs.declared.hub.Hub.TheVariants.{IX}
use Rattle.net.specs.HubSets.{has_hub, is_in_row}
use Rattle.net.specs.declared.cycle.Cycle.TheVariants.{Card}
use Rattle.selectors.specs.Fields.{indicate_latches}
use Rattle.selectors.specs.Indicate.{indicate_closes}
use Rattle.selectors.proofs.ContactLemmas.{indicate_row}
use Rattle.selectors.proofs.indicate.Indicate.close.Goals as goal

pub returns-in-Card : goal.returns-in-Card
returns-in-Card c point hub = c.insert_row.ensures hub
    ∙ ap (λ gained. has_hub c.args.contacts.now hub || gained)
    (ap (λ bits. is_in_row (IX 1 1) bits hub) c.spread.ensures.value
    ∙ indicate_row (indicate_latches c.self.inside) point hub
    ∙ ap (λ l. indicate_closes l Card point hub) c.self.view_is
    ∙ ap (λ y. indicate_closes c.args.self.now y point hub) (sym c.in-Card.is))
