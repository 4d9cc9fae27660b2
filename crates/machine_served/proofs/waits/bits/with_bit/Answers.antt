use Rattle.machine_served.proofs.WaitsWords.Joined.{with_bit-tells}
use Rattle.machine_served.proofs.waits.bits.with_bit.Goals as goal

pub returns : goal.returns
returns c other = with_bit-tells c.args.word c.args.bit other c.requires
