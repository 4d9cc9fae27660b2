use Rattle.machine_sets.proofs.BitSets.BitLemmas.{is_bit-low_word}
use Rattle.machine_sets.proofs.bit_sets.bits.low_word.Goals as goal

pub returns : goal.returns
returns c j low = is_bit-low_word c.args.bits j low
