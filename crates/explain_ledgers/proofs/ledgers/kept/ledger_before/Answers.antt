use Rattle.std.proofs.Common.{[]}
use Rattle.std.proofs.lemmas.List.Elements.{All-cons, All-nil}
use Rattle.explain_ledgers.specs.LedgersWords.Accounts.{IsAccount}
use Rattle.explain_ledgers.specs.LedgersWords.Running.{HasCycle}
use Rattle.explain_ledgers.specs.declared.ledgers.kept.AskedLedger.{AskedLedger}
use Rattle.explain_ledgers.proofs.LedgersWords.KeptLedgers.{only-kept}
use Rattle.explain_ledgers.proofs.ledgers.kept.ledger_before.Goals as goal

pub ledgers_before-requires-clause-has : goal.ledgers_before-requires-clause-has
ledgers_before-requires-clause-has c =
    All-cons (λ (one : AskedLedger). HasCycle c.args.setup.now c.args.cards.now one.passed) _ [] c.requires.has
    (All-nil (λ (one : AskedLedger). HasCycle c.args.setup.now c.args.cards.now one.passed))

pub ledgers_before-requires-clause-accounts : goal.ledgers_before-requires-clause-accounts
ledgers_before-requires-clause-accounts c =
    All-cons (λ (one : AskedLedger). IsAccount one.account) _ [] c.requires.account (All-nil (λ (one : AskedLedger). IsAccount one.account))

pub returns : goal.returns
returns c =
    only-kept c.args.setup.now c.args.cards.now c.args.ends (record { account = c.args.account; passed = c.args.count }) c.in_ok-kept.kept.items
    c.remove-ledger.result c.in_ok-kept.ensures.asked c.in_ok-kept.ensures.kept c.remove-ledger.ensures.value
