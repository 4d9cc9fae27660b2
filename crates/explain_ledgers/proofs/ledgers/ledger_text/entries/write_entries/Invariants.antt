use Rattle.std.proofs.Common.{◌≡◌, ◌++◌, take, option_map}
use Rattle.std.specs.List.{flat_map}
use Rattle.explain_ledgers.specs.LedgersWords.LedgerText.Entries.{entry_line}
use Rattle.explain_ledgers.specs.LedgersWords.LedgerText.Titles.{words_of}
use Rattle.explain_ledgers.proofs.ledgers.ledger_text.entries.write_entries.Given as goal

-- the entries so far are told
abbrev pub invariant-loop-entry : goal.invariant-loop-entry
invariant-loop-entry l =
    l.text.items ≡ l.initial.text.items ++ flat_map (entry_line (option_map words_of l.fn.title) l.fn.account) (take l.entry-index l.entries)
