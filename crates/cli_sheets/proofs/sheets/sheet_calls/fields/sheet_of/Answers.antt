use Rattle.cli_sheets.proofs.SheetsWords.SheetCalls.Sheets.{sheet-in, sheet-untold}
use Rattle.cli_sheets.proofs.sheets.sheet_calls.fields.sheet_of.Goals as goal

pub returns-in-Some-clause-sheet : goal.returns-in-Some-clause-sheet
returns-in-Some-clause-sheet c =
    sheet-in c.sheet_on.result (λ text. text.items) c.args.chart.now c.args.deck.now c.args.number c.in-Some.line.now c.in-Some.ensures.found
    c.sheet_on.ensures.sheet

pub returns-in-Some-clause-told : goal.returns-in-Some-clause-told
returns-in-Some-clause-told c = sheet-untold c.sheet_on.result c.args.deck.now c.args.number c.sheet_on.ensures.told
