use Rattle.std.proofs.Common.{subst}
use Rattle.hubs.specs.declared.hub.Hub.{Hub}
use Rattle.hubs.specs.declared.hub.Hub.TheVariants as hub
use Rattle.readback_panels.proofs.AmountZones.{units_on}
use Rattle.hubs.specs.SetupsWords.Wiring.{HasWire}
use Rattle.readback_panels.proofs.totals.total_of.Goals as goal

pub returns-clause-zone : goal.returns-clause-zone
returns-clause-zone c =
    c.zone_with_units-zone.ensures c.args.setup.now c.requires
    (units_on c.args.setup.now c.in_ok-level.level (record { lower = c.args.lower; upper = c.upper_of.result }) c.in_ok-wheel.wheel
    c.in_ok-level.ensures
    (subst (λ (exit : Hub). HasWire c.args.setup.now exit (hub.W c.in_ok-wheel.wheel)) c.exit.ensures c.in_ok-wheel.ensures.found.here))
