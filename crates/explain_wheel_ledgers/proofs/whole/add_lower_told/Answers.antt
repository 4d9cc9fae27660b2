use Rattle.std.proofs.Common.{sym, subst, length, ◌<◌, List}
use Rattle.std.specs.List.{All}
use Rattle.explain_ledgers.specs.LedgersWords.Accounts.{IsAccount}
use Rattle.explain_ledgers.specs.declared.ledgers.entry.Entry.{Entry}
use Rattle.explain_wheel_ledgers.proofs.Asked.{lower-both}
use Rattle.explain_wheel_ledgers.proofs.whole.add_lower_told.Goals as goal

pub add_lower_of_all-requires-clause-account : goal.add_lower_of_all-requires-clause-account
add_lower_of_all-requires-clause-account c = subst IsAccount (sym c.account-account.ensures) c.requires.account

pub add_lower_of_all-requires-clause-within : goal.add_lower_of_all-requires-clause-within
add_lower_of_all-requires-clause-within c =
    subst (λ (l : List Entry). All (λ (entry : Entry). entry.passed < length c.args.read_outs.now) l) (sym c.first.ensures) c.requires.first

pub add_lower_of_all-requires-2-clause-account : goal.add_lower_of_all-requires-2-clause-account
add_lower_of_all-requires-2-clause-account c = subst IsAccount (sym c.account-account.ensures) c.requires.account

pub add_lower_of_all-requires-2-clause-within : goal.add_lower_of_all-requires-2-clause-within
add_lower_of_all-requires-2-clause-within c =
    subst (λ (l : List Entry). All (λ (entry : Entry). entry.passed < length c.args.read_outs.now) l) (sym c.last.ensures) c.requires.last

pub returns : goal.returns
returns c =
    lower-both c.args.setup.now c.args.totals.now c.args.read_outs.now c.args.ledger.now c.account-account.result c.first.result.now
    c.last.result.now c.args.lower.now.items c.add_lower_of_all.new.lower.items c.add_lower_of_all-2.new.lower.items
    c.account-account.ensures c.first.ensures c.last.ensures c.in_ok-add_lower_of_all.ensures c.in_ok-add_lower_of_all-2.ensures
