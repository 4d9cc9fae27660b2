use Rattle.cli_sheets.proofs.SheetsWords.SheetCalls.Reading.{rule_refuses}
use Rattle.cli_sheets.proofs.sheets.sheet_calls.charts_read.checked.Goals as goal

pub returns-in-Err-clause-refused : goal.returns-in-Err-clause-refused
returns-in-Err-clause-refused c =
    rule_refuses c.args.raw c.in-Err.cause c.rule_told.result c.in-Err.ensures.refused c.rule_told.ensures
