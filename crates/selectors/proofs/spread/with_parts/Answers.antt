use Rattle.selectors.proofs.SpreadLemmas.{shifted_in}
use Rattle.selectors.proofs.spread.with_parts.Goals as goal

pub returns : goal.returns
returns c = shifted_in c.args.bits c.args.parts c.parts_of.result _ c.requires.fits c.parts_of.ensures.below c.parts_of.ensures.value
