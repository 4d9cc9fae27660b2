use Rattle.std.proofs.Common.{sym}
use Rattle.machine_sets.proofs.SpreadsWords.Touched.{touched-joined}
use Rattle.machine_sets.proofs.spreads.sets.PlaceSets.insert_sets.Goals as goal

pub returns : goal.returns
returns c place row low = rw (sym c.self.view_is) (c.join.ensures.joined place row low)

pub invariant_of-self : goal.invariant_of-self
invariant_of-self c =
    touched-joined c.self.inside.touched c.blocks_from.result c.args.sets.now c.self.inside.sets _ c.args.first c.self.invariant
    c.join.ensures.long c.join.ensures.joined c.blocks_from.ensures
