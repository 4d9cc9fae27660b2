use Rattle.std.proofs.Common.{false, refl, ◌∙◌, ap}
use Rattle.hubs.specs.declared.hub.Hub.TheVariants.{BAN, BAT}
use Rattle.selectors.specs.Contacts.{balance_closes}
use Rattle.selectors.specs.Fields.{latches_in}
use Rattle.selectors.specs.Spread.{spread}
use Rattle.selectors.proofs.BalanceLemmas.{latches-long}
use Rattle.selectors.proofs.ContactLemmas.{balance_rows, gains_two}
use Rattle.selectors.proofs.SpreadLemmas.{others_of, spread_side}
use Rattle.selectors.proofs.balance.BalanceLatches.close.Goals as goal

pub returns : goal.returns
returns c hub =
    let row = c.self.inside.transferred in
    let latches = latches_in row in
    gains_two (BAN (record { width = 3; number = 1 }) 1) (BAT (record { width = 3; number = 1 }) 1) hub _ _ _ _
    _ row (spread_side false 4 latches) (spread 4 latches)
    (others_of 4 340282366920938463463374607431768211455 row latches (rw (latches-long row) refl) c.self.invariant)
    c.self.invariant (c.insert_row.ensures hub) (c.insert_row-2.ensures hub)
    (balance_rows latches hub (latches-long row) ∙ ap (λ ls. balance_closes ls hub) c.self.view_is)
