use Rattle.std.proofs.Common.{rules}
use Rattle.machine_sets.proofs.BitSets.BundleLemmas.{AreCovered-more, AreCovered-all}
use Rattle.machine_sets.proofs.bit_sets.rows.Rows.set_apart.Goals as goal

pub loop-from-preserved : goal.loop-from-preserved
loop-from-preserved c =
    AreCovered-more c.args.self.now c.args.runs.now c.loop-from.from _ _ _ c.loop-from.invariant c.put_where.ensures
    c.is_covered.ensures

pub returns : goal.returns
returns c =
    AreCovered-all c.args.self.now c.args.runs.now c.loop-from.from _ (search rules) c.loop-from.invariant
