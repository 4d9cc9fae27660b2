use Rattle.std.proofs.Common.{arith}
use Rattle.machine_sets.proofs.SpreadsWords.LinkLemmas.{joined-at}
use Rattle.machine_sets.proofs.spreads.links.follow.Goals as goal

pub returns : goal.returns
returns c place row =
    joined-at c.args.sets.now c.args.link.to c.args.link.from place row (omega (arith, c.requires.high, c.told-sets))
