use Rattle.std.specs.Prelude.{◌≡◌, map, take}
use Rattle.explain_ledgers.specs.LedgersWords.KeptLedgers.{empty_ledger}
use Rattle.explain_ledgers.proofs.ledgers.kept.empty_ledgers.Given as goal

-- the ledgers so far
abbrev pub invariant-loop-one : goal.invariant-loop-one
invariant-loop-one l = l.kept.items ≡ map (empty_ledger l.ends) (take l.one-index l.asked)
