use Rattle.cli_sheets.proofs.SheetsWords.SheetCalls.Reading.{lines_refused, reads_lawful, text_refuses}
use Rattle.cli_sheets.proofs.sheets.sheet_calls.charts_read.lawful_chart.Goals as goal

pub returns-in-Ok-clause-read : goal.returns-in-Ok-clause-read
returns-in-Ok-clause-read c =
    reads_lawful c.checked.result c.args.text.now c.in-Ok.raw c.in-Ok.ensures.read c.checked.ensures.same c.checked.ensures.lawful

pub returns-in-Ok-clause-refused : goal.returns-in-Ok-clause-refused
returns-in-Ok-clause-refused c =
    lines_refused c.checked.result c.args.text.now c.in-Ok.raw c.in-Ok.ensures.read c.checked.ensures.refused

pub returns-in-Err-clause-refused : goal.returns-in-Err-clause-refused
returns-in-Err-clause-refused c =
    text_refuses c.args.text.now c.in-Err.cause c.text_told.result c.in-Err.ensures.fault c.text_told.ensures
