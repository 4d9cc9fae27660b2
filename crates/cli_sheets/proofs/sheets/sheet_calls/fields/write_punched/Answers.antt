use Rattle.std.proofs.Common.{refl}
use Rattle.cli_sheets.proofs.SheetsWords.SheetCalls.Sheets.{sheet-gained}
use Rattle.cli_sheets.specs.SheetsWords.SheetCalls.CardSheets.{invalid, invalid_told, valid, valid_told}
use Rattle.cli_sheets.proofs.sheets.sheet_calls.fields.write_punched.Goals as goal

pub returns-in-Ok : goal.returns-in-Ok
returns-in-Ok c =
    sheet-gained c.write_valid.result c.args.chart.now c.args.number c.args.line.now c.args.text.now.items c.write_valid.new.text.items
    (valid_told c.args.chart.now c.args.number c.args.line.now c.args.card.now)
    (valid c.args.card.now c.requires (c.in-Ok.ensures.valid.0 refl) refl) c.write_valid.ensures

pub returns-in-Err : goal.returns-in-Err
returns-in-Err c =
    sheet-gained c.write_invalid.result c.args.chart.now c.args.number c.args.line.now c.args.text.now.items c.write_invalid.new.text.items
    (invalid_told c.args.chart.now c.args.number c.args.line.now c.args.card.now c.in-Err.fault)
    (invalid c.args.card.now c.in-Err.fault c.requires c.in-Err.ensures.first refl) c.write_invalid.ensures
