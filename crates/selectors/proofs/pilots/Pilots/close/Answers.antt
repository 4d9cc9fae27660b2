use Rattle.std.proofs.Common.{◌∙◌, ap, refl, false}
use Rattle.hubs.specs.declared.hub.Hub.TheVariants.{PIN, PIT}
use Rattle.selectors.specs.Fields.{pilots_of}
use Rattle.selectors.specs.PilotWords.{pilots_in}
use Rattle.selectors.specs.Pilots.{pilots_closes}
use Rattle.selectors.specs.Spread.{spread}
use Rattle.selectors.proofs.ContactLemmas.{pilot_rows, gains_two}
use Rattle.selectors.proofs.PositionLemmas.{pilots-long}
use Rattle.selectors.proofs.SpreadLemmas.{others_of, spread_side}
use Rattle.selectors.proofs.pilots.Pilots.close.Goals as goal

pub returns : goal.returns
returns c cycle point hub =
    let row = c.positions_of-transferred.result in
    let pilots = pilots_in c.self.inside.transferred in
    let long = pilots-long c.self.inside.transferred in
    gains_two (PIN 1 1) (PIT 1 1) hub _ _ _ _ _ row (spread_side false 3 pilots) (spread 3 pilots)
    (others_of 3 281474976710655 row pilots (rw long refl) c.positions_of-transferred.ensures.value)
    c.positions_of-transferred.ensures.value (c.insert_row.ensures hub) (c.insert_row-2.ensures hub)
    (pilot_rows (pilots_of c.self.inside) cycle point hub long ∙ ap (λ p. pilots_closes p cycle point hub) c.self.view_is)
