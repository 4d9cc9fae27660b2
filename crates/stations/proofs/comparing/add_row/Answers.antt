use Rattle.std.proofs.Common.{arith}
use Rattle.stations.proofs.EntryLanes.{none-added, one-added}
use Rattle.stations.proofs.comparing.add_row.Goals as goal

pub returns-then-impulsed-eq0 : goal.returns-then-impulsed-eq0
returns-then-impulsed-eq0 c k low = none-added c.args.impulsed c.args.place k _ c.if-impulsed-eq0.true low

pub loop-k-preserved : goal.loop-k-preserved
loop-k-preserved c =
    let below = c.loop-k-test.true in
    one-added c.loop-k.k c.args.place c.args.impulsed c.from.result c.has_bit.result c.args.sets.now c.loop-k.sets (omega (arith, below))
    c.requires c.has_bit.ensures c.from.ensures c.loop-k.invariant
