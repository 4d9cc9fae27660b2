use Rattle.proof_reports.proofs.PrintedLines.Headings.{heading_lines}
use Rattle.proof_reports.proofs.printed_lines.laws.heading_lines_print.Goals as goal

pub returns : goal.returns
returns c = heading_lines
