use Rattle.explain_ledgers.proofs.LedgersWords.KeptLedgers.{KeepsAll}
use Rattle.explain_ledgers.proofs.ledgers.kept.ledgers_before.Given as goal

-- the run stands between two cycles, and the ledgers are kept up to here
abbrev pub invariant-loop-passed : goal.invariant-loop-passed
invariant-loop-passed l = KeepsAll l.setup l.cards l.ends l.asked l.passed l.run l.kept.items
