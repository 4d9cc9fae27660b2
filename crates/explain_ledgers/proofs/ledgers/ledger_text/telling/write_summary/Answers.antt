use Rattle.std.proofs.Common.{option_map}
use Rattle.explain_ledgers.specs.LedgersWords.LedgerText.Titles.{words_of}
use Rattle.explain_ledgers.proofs.LedgersWords.LedgerText.Texts.{summary-told}
use Rattle.explain_ledgers.proofs.ledgers.ledger_text.telling.write_summary.Goals as goal

pub returns : goal.returns
returns c =
    summary-told c.write_entries-2.result (option_map words_of c.args.title.now) c.args.ledger.now c.account-account.result c.first.result.now
    c.last.result.now c.left_out.result c.args.text.now.items c.write_entries.new.text.items c.write_gaps.new.text.items
    c.write_entries-2.new.text.items c.account-account.ensures c.first.ensures c.left_out.ensures c.last.ensures
    c.in_ok-write_entries.ensures c.in_ok-write_gaps.ensures c.write_entries-2.ensures
