use Rattle.std.specs.Prelude.{◌≤◌, ℕ, All, take}
use Rattle.explain_ledgers.specs.declared.ledgers.kept.AskedLedger.{AskedLedger}
use Rattle.explain_ledgers.proofs.ledgers.kept.last_of.Given as goal

-- as high as those so far, and no higher than all
abbrev pub invariant-loop-one : goal.invariant-loop-one
invariant-loop-one l = record {
  high : All (λ (one : AskedLedger). one.passed ≤ l.last) (take l.one-index l.asked);
  least : (bound : ℕ) → All (λ (one : AskedLedger). one.passed ≤ bound) l.asked → l.last ≤ bound;
}
