use Rattle.std.proofs.Common.{arith}
use Rattle.explain_wheels.proofs.WaysWords.Layers.{IsStartedBelow-first, IsStartTable-all}
use Rattle.explain_wheels.proofs.ways.search.starts.Goals as goal

pub loop-number-init : goal.loop-number-init
loop-number-init c = IsStartedBelow-first _

pub returns : goal.returns
returns c = IsStartTable-all _ c.loop-number.number c.loop-number.steps (omega arith) c.loop-number.invariant
