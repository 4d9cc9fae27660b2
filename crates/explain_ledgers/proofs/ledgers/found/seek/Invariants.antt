use Rattle.std.specs.Prelude.{map}
use Rattle.machine.proofs.FewCycles.{ahead}
use Rattle.explain_wheels.specs.RunsWords.{along_of}
use Rattle.explain_ledgers.specs.LedgersWords.Running.{sought_at}
use Rattle.explain_ledgers.proofs.LedgersWords.SoughtLines.{Seeks}
use Rattle.explain_ledgers.proofs.ledgers.found.seek.Given as goal

-- the run stands between two cycles, and the lines are sought up to here
abbrev pub invariant-loop-passed : goal.invariant-loop-passed
invariant-loop-passed l = Seeks l.setup l.cards (map sought_at l.fn.sought) l.run l.sought

abbrev pub decreases-loop-passed : goal.decreases-loop-passed
decreases-loop-passed l = ahead (along_of l.run).run
