use Rattle.report_streams.proofs.DecksInRow.KeptLines.{lines_in_row}
use Rattle.report_streams.proofs.decks_in_row.laws.decks_keep_their_lines.Goals as goal

pub returns : goal.returns
returns c = lines_in_row
