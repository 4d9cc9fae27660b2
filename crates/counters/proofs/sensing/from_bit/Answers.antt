use Rattle.net.proofs.Below.machine_sets.BitSets.BitLemmas.{is_bit-shr}
use Rattle.counters.proofs.sensing.from_bit.Goals as goal

pub returns : goal.returns
returns c k = is_bit-shr c.args.word c.args.bit k
