use Rattle.std.proofs.Common.{arith}
use Rattle.net.proofs.Below.machine_sets.BitSets.MaskLemmas.{rows-masked}
use Rattle.selectors.proofs.PickupLemmas.{pickups-masked}
use Rattle.selectors.proofs.pilots.pickups_in.Goals as goal

pub returns : goal.returns
returns c =
    pickups-masked _ c.args.sets.now (λ k. rows-masked 16 c.args.sets.now 0 10 k (omega arith) c.requires (omega arith))
