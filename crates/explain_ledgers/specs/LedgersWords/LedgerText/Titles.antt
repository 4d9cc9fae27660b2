-- A helper of the code: the words of a title.
use Rattle.chart_lines.specs.ChartsWords.Name.{name_text}
use Rattle.explain_ledgers.specs.LedgersWords.LedgerText.Entries.{Words}
use Rattle.explain_ledgers.specs.declared.ledgers.ledger_text.title.Title.{Title}

abbrev pub words_of : Title → Words
words_of title = record { name = name_text title.name; decimals = title.decimals }
