use Rattle.chart_rules.specs.ValidCard.{digit_count, digit_rows}
use Rattle.cli_sheets.proofs.bad_columns.column.digit_count.Goals as goal

pub returns : goal.returns
unfolding digit_count digit_rows
returns c = c.punched_among.ensures
