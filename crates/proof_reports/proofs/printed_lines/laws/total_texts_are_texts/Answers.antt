use Rattle.proof_reports.proofs.PrintedLines.Premises.{total_texts}
use Rattle.proof_reports.proofs.printed_lines.laws.total_texts_are_texts.Goals as goal

pub returns : goal.returns
returns c = total_texts
