use Rattle.std.proofs.Common.{◌/◌, arith}
use Rattle.machine_sets.proofs.SpreadsWords.Touched.{ones-shifted}
use Rattle.machine_sets.proofs.spreads.blocks.blocks_from.Goals as goal

pub returns : goal.returns
returns c place from to low =
    let first = c.requires in
    let some = c.max.ensures in
    let most = c.min.ensures in
    ones-shifted c.first_blocks.result _ (c.args.first / 32) (place / 32) c.first_blocks.ensures (omega (arith, low)) (omega (arith, from))
    (grind (arith, from, to, low, first, some, most))
