use Rattle.machine_sets.proofs.BitSets.PlaceLemmas.{has_place-zeros}
use Rattle.machine_sets.proofs.spreads.paths.places_led_to.Goals as goal

pub loop-link-init : goal.loop-link-init
loop-link-init c place = has_place-zeros 31 place
