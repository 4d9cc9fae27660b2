use Rattle.explain_ledgers.proofs.LedgersWords.CycleReadOuts.{ReadsTo}
use Rattle.explain_ledgers.proofs.ledgers.read_outs.read_outs_before.Given as goal

-- the run stands between two cycles, and it is told which groups are read out up to here
abbrev pub invariant-loop-passed : goal.invariant-loop-passed
invariant-loop-passed l = ReadsTo l.setup l.cards l._passed l.run l.all.items
