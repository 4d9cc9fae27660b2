use Rattle.std.proofs.Common.{option_map}
use Rattle.explain_ledgers.specs.LedgersWords.LedgerText.Titles.{words_of}
use Rattle.explain_ledgers.proofs.LedgersWords.LedgerText.Texts.{gap-told}
use Rattle.explain_ledgers.proofs.ledgers.ledger_text.entries.write_gap.Goals as goal

pub returns : goal.returns
returns c =
    gap-told c.write_together.result (option_map words_of c.args.title.now) c.args.left_out c.decimals_in.result c.args.text.now.items
    c.write_count.new.text.items c.write_together.new.text.items c.decimals_in.ensures c.in_ok-write_count.ensures c.write_together.ensures
