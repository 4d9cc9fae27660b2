use Rattle.hubs.specs.Hubs.{number_of}
use Rattle.machine_sets.proofs.BitSets.PlaceLemmas.{has_place-zeros}
use Rattle.net.proofs.Sets.{has_number-zeros}
use Rattle.net.proofs.picture.Picture.new.Goals as goal

pub returns : goal.returns
returns c hub = has_number-zeros 31 (number_of hub)

pub invariant_of-result : goal.invariant_of-result
invariant_of-result c place after = has_place-zeros 31 place
