use Rattle.cli_sheets.proofs.SheetsWords.Standing.{items-stand}
use Rattle.cli_sheets.proofs.sheets.laws.items_stand_on_their_wheels.Goals as goal

pub returns : goal.returns
returns c = items-stand
