use Rattle.machine.proofs.Rest.{is_bit-low_half}
use Rattle.machine.proofs.groups.low_bits.Goals as goal

pub returns : goal.returns
returns c k low = is_bit-low_half c.args.word k low
