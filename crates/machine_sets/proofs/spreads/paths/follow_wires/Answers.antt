use Rattle.machine_sets.proofs.SpreadsWords.FarBlocks.{touched-spread}
use Rattle.machine_sets.proofs.spreads.paths.follow_wires.Goals as goal

pub invariant_of-sets : goal.invariant_of-sets
invariant_of-sets c =
    touched-spread c.sets.inside.touched c.args.far c.args.wires.now c.sets.inside.sets c.follow_links.new.sets c.requires c.sets.invariant
    c.follow_links.ensures.long c.follow_links.ensures.spread
