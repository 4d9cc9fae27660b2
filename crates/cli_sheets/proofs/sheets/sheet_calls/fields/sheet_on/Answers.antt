use Rattle.cli_sheets.proofs.SheetsWords.SheetCalls.Sheets.{sheet-begun}
use Rattle.cli_sheets.proofs.sheets.sheet_calls.fields.sheet_on.Goals as goal

pub returns-in-Ok-clause-sheet : goal.returns-in-Ok-clause-sheet
returns-in-Ok-clause-sheet c =
    sheet-begun c.args.chart.now c.args.number c.args.line.now c.new-text.result.items c.write_sheet.new.text.items c.new-text.ensures.items
    c.in-Ok.ensures
