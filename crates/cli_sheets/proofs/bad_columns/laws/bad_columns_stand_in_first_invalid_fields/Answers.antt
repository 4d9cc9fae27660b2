use Rattle.cli_sheets.proofs.BadColumns.Fields.{stand_in_first_invalid}
use Rattle.cli_sheets.proofs.bad_columns.laws.bad_columns_stand_in_first_invalid_fields.Goals as goal

pub returns : goal.returns
returns c = stand_in_first_invalid
