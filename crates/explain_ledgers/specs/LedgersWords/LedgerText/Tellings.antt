-- The text of a ledger.
use Rattle.std.specs.Prelude.{ℕ, List, ◌++◌, Option, codes}
use Rattle.net.specs.declared.cycle.Cycle.{Cycle}
use Rattle.explain_ledgers.specs.LedgersWords.Summaries.{Summary}
use Rattle.explain_ledgers.specs.declared.ledgers.account.Account.{Account}
use Rattle.explain_ledgers.specs.LedgersWords.LedgerText.Entries.{Words, entry_lines, gap_lines}
use Rattle.explain_ledgers.specs.LedgersWords.LedgerText.Names.{account_text, cycle_text}

-- whose ledger it is, and before which cycle
abbrev pub heading_line : Account → Cycle → ℕ → List ℕ
heading_line account cycle card = codes "ledger of " ++ account_text account ++ codes " before " ++ cycle_text cycle card ++ codes "\n"

-- the lines of the entries: all of them, or those at both ends with a line between them
abbrev pub summary_lines : Option Words → Summary → List ℕ
summary_lines words told =
    entry_lines words told.account told.first ++ gap_lines words told.left_out ++ entry_lines words told.account told.last

-- A ledger before a cycle, by the number of the card that was read last and the words that a chart has for it.
abbrev pub ledger_text : Summary → Cycle → ℕ → Option Words → List ℕ
ledger_text told cycle card words = heading_line told.account cycle card ++ summary_lines words told

-- that there is no ledger to tell
abbrev pub no_ledger_text : List ℕ
no_ledger_text = codes "no ledger: no way to this wheel begins at a counter group\n"
