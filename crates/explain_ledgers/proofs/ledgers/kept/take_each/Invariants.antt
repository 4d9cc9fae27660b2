use Rattle.std.proofs.Common.{◌≡◌, ◌++◌, map, take, drop}
use Rattle.explain_ledgers.specs.LedgersWords.KeptLedgers.{kept_after}
use Rattle.explain_ledgers.proofs.ledgers.kept.take_each.Given as goal

-- the ledgers so far have taken the cycle
abbrev pub invariant-loop-one : goal.invariant-loop-one
invariant-loop-one l =
    l.kept ≡ map (kept_after l.cycle l.card l.passed l.groups) (take l.one-index l.fn.kept) ++ drop l.one-index l.fn.kept
