use Rattle.machine_sets.proofs.BitSets.PlaceLemmas.{read_three}
use Rattle.machine_sets.proofs.bit_sets.places.run.Goals as goal

pub returns : goal.returns
returns c k =
    read_three c.args.words.now c.args.first c.part_of_run.result c.part_of_run-2.result c.part_of_run-3.result k c.told-words
    c.fits-words c.part_of_run.type_inv c.part_of_run-2.type_inv c.part_of_run-3.type_inv (c.part_of_run.ensures k)
    (c.part_of_run-2.ensures k) (c.part_of_run-3.ensures k)
