use Rattle.std.proofs.Common.{refl}
use Rattle.cli_sheets.proofs.SheetsWords.SheetCalls.Sheets.{sheet-gained}
use Rattle.cli_sheets.specs.SheetsWords.SheetCalls.CardSheets.{unpunched, unpunched_told}
use Rattle.cli_sheets.proofs.sheets.sheet_calls.fields.write_sheet.Goals as goal

pub returns-in-Err : goal.returns-in-Err
returns-in-Err c =
    sheet-gained c.write_unpunched.result c.args.chart.now c.args.number c.args.line.now c.args.text.now.items
    c.write_unpunched.new.text.items (unpunched_told c.args.chart.now c.args.number c.args.line.now c.in-Err.cause)
    (unpunched c.in-Err.cause c.in-Err.ensures.fault refl) c.write_unpunched.ensures
