use Rattle.std.proofs.Common.{◌/◌, arith}
use Rattle.machine_sets.proofs.SpreadsWords.Touched.{one-block}
use Rattle.machine_sets.proofs.spreads.blocks.block_of.Goals as goal

pub returns : goal.returns
returns c block = one-block (c.args.place / 32) block (let low = c.requires in omega (arith, low))
