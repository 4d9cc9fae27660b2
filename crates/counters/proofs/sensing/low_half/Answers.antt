use Rattle.net.proofs.Below.machine_sets.BitSets.BitLemmas.{is_bit-low_word}
use Rattle.counters.proofs.sensing.low_half.Goals as goal

pub returns : goal.returns
returns c k low = is_bit-low_word c.args.row k low
