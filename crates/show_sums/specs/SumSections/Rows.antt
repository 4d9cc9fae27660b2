-- The rows of a sum: for each entry of its ledger from where the amount comes, the amount with its sign, and what the counter held before and
-- after.
use Rattle.std.specs.Prelude.{ℕ, ◌==◌, List, [], ◌∷◌, ◌++◌, Option, Some, None, codes, if◌then◌else◌}
use Rattle.std.specs.List.{flat_map}
use Rattle.explain_ledgers.specs.LedgersWords.LedgerText.Amounts.{amount_text}
use Rattle.explain_ledgers.specs.LedgersWords.LedgerText.Entries.{Words, gap_line, source_text, sum_text}
use Rattle.explain_ledgers.specs.LedgersWords.LedgerText.Names.{cycle_text}
use Rattle.explain_ledgers.specs.declared.ledgers.entry.Change.{Change}
use Rattle.explain_ledgers.specs.declared.ledgers.entry.Change.TheVariants.{Plus, Minus}
use Rattle.explain_ledgers.specs.declared.ledgers.entry.Entry.{Entry}
use Rattle.explain_ledgers.specs.declared.ledgers.ledger.LeftOut.{LeftOut}
use Rattle.show_drawings.specs.MarkupWords.Escapes.{escaped}
use Rattle.show_links.specs.declared.shown.Shown.{Shown}
use Rattle.explain_wheel_ledgers.specs.ToldLedgers.{words_told}
use Rattle.explain_wheel_ledgers.specs.declared.chart_totals.TitledAccount.{TitledAccount}
use Rattle.show_sums.specs.SumSections.Targets.{target_close, target_of, target_open}
use Rattle.show_sums.specs.declared.sum_sections.sums.PageSum.{PageSum}

-- from where an amount comes: by the words of a chart from its card or a lower total, else from its cycle
abbrev pub from_text : Option Words → Entry → List ℕ
from_text (Some words) entry = source_text words.name entry.cycle entry.card
from_text None entry = cycle_text entry.cycle entry.card

-- what was added or subtracted, as an amount of a chart
abbrev pub amount_by : Words → Change → (entered : ℕ) → List ℕ
amount_by words Plus entered = amount_text words.decimals entered
amount_by words Minus entered = 45 ∷ amount_text words.decimals entered
amount_by words change entered = []

abbrev pub amount_of : Option Words → Change → (entered : ℕ) → List ℕ
amount_of None change entered = []
amount_of (Some words) change entered = amount_by words change entered

-- the three cells of a row
unfoldable pub from_cell : Shown → List PageSum → Option TitledAccount → Entry → List ℕ
from_cell shown sums total entry =
    codes "<tr><td>" ++ target_open (target_of shown sums total entry) ++ escaped (from_text (words_told total) entry)
    ++ target_close (target_of shown sums total entry)

unfoldable pub amount_cell : Option TitledAccount → Entry → List ℕ
amount_cell total entry = codes "</td><td>" ++ escaped (amount_of (words_told total) entry.change entry.entered)

unfoldable pub sum_cell : (positions : ℕ) → Entry → List ℕ
sum_cell positions entry = codes "</td><td><code>" ++ escaped (sum_text positions entry) ++ codes "</code></td></tr>\n"

-- a row
unfoldable pub entry_row : Shown → List PageSum → PageSum → Entry → List ℕ
entry_row shown sums sum entry =
    from_cell shown sums sum.total entry ++ amount_cell sum.total entry ++ sum_cell sum.positions entry

-- the row in place of the entries that are left out, if some are
unfoldable pub gap_row : Option TitledAccount → LeftOut → List ℕ
gap_row total left_out = codes "<tr><td colspan=\"3\">" ++ escaped (gap_line (words_told total) left_out) ++ codes "</td></tr>\n"

abbrev pub gap_rows : Option TitledAccount → LeftOut → List ℕ
gap_rows total left_out = if left_out.count == 0 then [] else gap_row total left_out

-- all rows
unfoldable pub table_front : Shown → List PageSum → PageSum → List ℕ
table_front shown sums sum = codes "<table class=\"sum\">\n" ++ flat_map (entry_row shown sums sum) sum.ledger.first

unfoldable pub table_text : Shown → List PageSum → PageSum → List ℕ
table_text shown sums sum =
    table_front shown sums sum ++ gap_rows sum.total sum.ledger.left_out ++ flat_map (entry_row shown sums sum) sum.ledger.last
    ++ codes "</table>\n"
