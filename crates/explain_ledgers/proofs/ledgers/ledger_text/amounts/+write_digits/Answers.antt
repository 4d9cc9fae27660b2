use Rattle.std.proofs.Common.{◌-◌, refl, arith}
use Rattle.std.proofs.lemmas.Bool.Decides.{nat_tests}
use Rattle.explain_ledgers.proofs.LedgersWords.LedgerText.Texts.{digits-more}
use Rattle.explain_ledgers.proofs.ledgers.ledger_text.amounts.+write_digits.Goals as goal

pub returns : goal.returns
returns t c =
    let some = c.if-width-eq0.false in
    digits-more c.args.text.now.items c.write_digits.new.text.items c.push.new.self.items c.args.width c.args.number (c.args.width - 1)
    (grind (arith, nat_tests, some)) refl c.in_ok-write_digits.ensures c.in_ok-push.ensures.items
