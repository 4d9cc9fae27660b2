-- What is told of a column that is at fault.
use Rattle.std.specs.Prelude.{ℕ, List, ◌++◌, codes, decimal}
use Rattle.cli_sheets.specs.declared.bad_columns.column.BadColumn.{BadColumn}
use Rattle.cli_sheets.specs.declared.bad_columns.column.ColumnSlip.{ColumnSlip}
use Rattle.cli_sheets.specs.declared.bad_columns.column.ColumnSlip.TheVariants as slip
use Rattle.chart_lines.specs.ChartsWords.Name.{name_text}
use Rattle.cli_sheets.specs.declared.wording.TheConstants as wording

-- why it is
abbrev pub why : ColumnSlip → List ℕ
why slip.Unprinted = wording.NO_WHEEL_PRINTS_THIS_CHARACTER.now
why slip.Several = wording.THIS_IS_NO_DIGIT.now
why slip.Twelve = wording.ROW_12_IS_PUNCHED.now
why slip.Eleven = wording.ROW_11_IS_PUNCHED.now
why slip.Missing = wording.A_DIGIT_IS_MISSING.now

-- the column, the name of its field, and why
abbrev pub bad_words : BadColumn → List ℕ
bad_words bad = wording.COLUMN.now ++ decimal bad.column ++ codes " of " ++ name_text bad.name ++ codes ": " ++ why bad.slip ++ codes "\n"
