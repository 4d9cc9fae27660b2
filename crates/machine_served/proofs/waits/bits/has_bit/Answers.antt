use Rattle.machine_sets.proofs.BitSets.BitLemmas.{test_bit}
use Rattle.machine_served.proofs.waits.bits.has_bit.Goals as goal

pub returns : goal.returns
returns c = test_bit c.args.word c.args.bit
