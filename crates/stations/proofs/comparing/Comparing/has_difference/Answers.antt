use Rattle.std.proofs.Common.{◌≡◌, arith, false, refl, sym}
use Rattle.std.proofs.lemmas.Bool.Decides.{nat_tests}
use Rattle.hubs.specs.declared.hub.Hub.{Hub}
use Rattle.net.specs.declared.cycle.Cycle.{Cycle}
use Rattle.net.specs.declared.cycle.Cycle.TheVariants.{Card}
use Rattle.net.specs.declared.cycle.Point.TheVariants.{K}
use Rattle.stations.specs.Comparing.{Compared, comparing_emits, differences_emit}
use Rattle.stations.proofs.RowHubs.{no_difference}
use Rattle.stations.proofs.comparing.Comparing.has_difference.Goals as goal

-- where no position differs comparing emits nothing
silent : (compared : Compared) → ((hub : Hub) → false ≡ differences_emit compared hub) → (cycle : Cycle) (hub : Hub)
    → comparing_emits compared cycle K hub ≡ false
silent compared none Card hub = sym (none hub)
silent compared none other hub = refl

pub returns : goal.returns
returns c same =
    silent c.args.self.now
    (λ hub. no_difference c.args.self.now c.differences.result hub (grind (arith, nat_tests, same)) c.differences.ensures)
