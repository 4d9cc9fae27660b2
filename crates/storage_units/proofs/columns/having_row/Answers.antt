use Rattle.std.proofs.Common.{◌∙◌, arith}
use Rattle.net.proofs.Below.machine_sets.BitSets.MaskLemmas.{rows-masked}
use Rattle.storage_units.proofs.ColumnSets.{sixteen}
use Rattle.storage_units.proofs.columns.having_row.Goals as goal

pub returns : goal.returns
returns c k =
    let low = c.requires in
    let long = c.told-sets in
    rows-masked 16 c.args.sets.now 0 c.args.place k (omega arith) (omega (arith, long)) (omega (arith, low))
    ∙ sixteen c.args.sets.now k c.args.place long
