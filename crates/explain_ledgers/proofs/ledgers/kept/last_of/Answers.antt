use Rattle.std.proofs.Common.{◌≤◌, subst, arith}
use Rattle.std.specs.Prelude.{All, List}
use Rattle.std.proofs.lemmas.List.{take_all}
use Rattle.explain_ledgers.specs.declared.ledgers.kept.AskedLedger.{AskedLedger}
use Rattle.explain_ledgers.proofs.LedgersWords.KeptLedgers.{last-more, max-least, max-left, max-right}
use Rattle.explain_ledgers.proofs.ledgers.kept.last_of.Goals as goal

pub loop-one-init : goal.loop-one-init
loop-one-init c = record { high = λ k d low. absurd (omega (arith, low)); least = λ bound all. omega arith }

pub loop-one-preserved : goal.loop-one-preserved
loop-one-preserved c = record {
  high =
      last-more c.args.asked.now c.loop-one.one-index c.loop-one.last c.max-last.result _ c.loop-one-test.true c.loop-one.invariant.high
      (max-left c.loop-one.last _ c.max-last.result c.max-last.ensures) (max-right c.loop-one.last _ c.max-last.result c.max-last.ensures);
  least = λ bound all.
      max-least c.loop-one.last _ c.max-last.result bound c.max-last.ensures (c.loop-one.invariant.least bound all)
      (all c.loop-one.one-index _ c.loop-one-test.true);
}

pub returns-clause-high : goal.returns-clause-high
returns-clause-high c =
    let less = c.loop-one-test.false in
    subst (λ (l : List AskedLedger). All (λ (one : AskedLedger). one.passed ≤ c.loop-one.last) l)
    (take_all c.loop-one.one-index c.args.asked.now less) c.loop-one.invariant.high
