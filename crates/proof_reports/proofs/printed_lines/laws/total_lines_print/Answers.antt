use Rattle.proof_reports.proofs.PrintedLines.TotalLines.{total_lines}
use Rattle.proof_reports.proofs.printed_lines.laws.total_lines_print.Goals as goal

pub returns : goal.returns
returns c = total_lines
