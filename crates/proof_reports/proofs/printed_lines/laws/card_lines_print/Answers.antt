use Rattle.proof_reports.proofs.PrintedLines.Cards.{card_lines}
use Rattle.proof_reports.proofs.printed_lines.laws.card_lines_print.Goals as goal

pub returns : goal.returns
returns c = card_lines
