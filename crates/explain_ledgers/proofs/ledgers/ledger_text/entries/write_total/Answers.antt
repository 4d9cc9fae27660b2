use Rattle.std.proofs.Common.{codes, decimal}
use Rattle.explain_ledgers.specs.LedgersWords.LedgerText.Entries.{after_card_text}
use Rattle.explain_ledgers.proofs.LedgersWords.LedgerText.Texts.{three-pieces}
use Rattle.explain_ledgers.proofs.ledgers.ledger_text.entries.write_total.Goals as goal

pub returns : goal.returns
returns c =
    three-pieces c.write_after_card.result c.args.text.now.items c.write_all.new.self.items c.write.new.self.items
    c.write_after_card.new.text.items (codes "total of level ") (decimal c.args.level) (after_card_text c.args.card)
    c.in_ok-write_all.ensures.bytes c.in_ok-write.ensures.bytes c.write_after_card.ensures
