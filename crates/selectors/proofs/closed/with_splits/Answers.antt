use Rattle.net.specs.declared.cycle.Cycle.TheVariants.{RunIn}
use Rattle.selectors.proofs.closed.with_splits.Goals as goal

pub returns : goal.returns
returns c hub = c.close.ensures RunIn hub
