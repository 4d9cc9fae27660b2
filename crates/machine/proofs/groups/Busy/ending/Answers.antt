use Rattle.net.proofs.Below.machine_sets.BitSets.BitLemmas.{is_bit-or}
use Rattle.machine.proofs.groups.Busy.ending.Goals as goal

pub returns : goal.returns
returns c k = is_bit-or c.args.self.controlled c.args.self.carried k
