use Rattle.std.proofs.Common.{Bool, ◌||◌, ◌∙◌, ap, sym, ℕ}
use Rattle.net.specs.HubSets.{has_hub, is_in_row}
use Rattle.net.specs.declared.cycle.Point.{Point}
use Rattle.hubs.specs.declared.hub.Hub.TheVariants.{CO}
use Rattle.selectors.specs.Contacts.{carry_closes}
use Rattle.selectors.proofs.ContactLemmas.{carry_row, gains_none, no_carry_before}
use Rattle.selectors.proofs.closed.with_carries.Goals as goal

pub returns-in-C : goal.returns-in-C
returns-in-C c hub =
    gains_none (has_hub c.args.contacts hub) (carry_closes c.args.point c.args.nines.now hub)
    (no_carry_before c.args.point c.args.nines.now hub c.in-C.is)

pub returns-in-K : goal.returns-in-K
returns-in-K c hub =
    c.insert_row.ensures hub
    ∙ ap (λ (b : Bool). has_hub c.args.contacts hub || b)
    (ap (λ (bits : ℕ). is_in_row (CO (record { width = 3; number = 1 })) bits hub) c.spread.ensures.value
    ∙ carry_row c.args.nines.now hub c.told-nines
    ∙ ap (λ (p : Point). carry_closes p c.args.nines.now hub) (sym c.in-K.is))
