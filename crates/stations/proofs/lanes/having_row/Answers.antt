use Rattle.std.proofs.Common.{arith}
use Rattle.net.proofs.Below.machine_sets.BitSets.MaskLemmas.{rows-masked}
use Rattle.stations.proofs.lanes.having_row.Goals as goal

pub returns : goal.returns
returns c k =
    let low = c.requires.place in
    rows-masked 64 c.args.sets.now c.args.from c.args.place k (omega arith) c.requires.within (omega (arith, low))
