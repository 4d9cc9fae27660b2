use Rattle.std.proofs.Common.{◌∙◌, sym}
use Rattle.machine_sets.proofs.BitSets.PlaceLemmas.{has_place-word}
use Rattle.machine_sets.proofs.bit_sets.places.has_within.Goals as goal

pub returns : goal.returns
returns c = c.has_bit.ensures ∙ sym (has_place-word c.args.words.now c.args.place)
