use Rattle.machine.proofs.Rest.{carries-marked}
use Rattle.machine.proofs.groups.carries.Goals as goal

pub returns : goal.returns
returns c = carries-marked c.args.picture.now c.row.result c.low_bits.result c.low_bits.ensures c.row.ensures.hubs
