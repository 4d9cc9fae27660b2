use Rattle.card_code.specs.Lines.{lines_of}
use Rattle.cli_sheets.proofs.SheetsWords.SheetCalls.Going.{AreBehind}
use Rattle.cli_sheets.proofs.sheets.sheet_calls.fields.line_numbered.Given as goal

-- what is left is behind the lines that were passed
abbrev pub invariant-loop-passed : goal.invariant-loop-passed
invariant-loop-passed l = AreBehind (lines_of l.deck) (lines_of l.rest) l.passed
