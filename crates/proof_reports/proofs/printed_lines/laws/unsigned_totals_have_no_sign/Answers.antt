use Rattle.proof_reports.proofs.PrintedLines.Premises.{unsigned_totals}
use Rattle.proof_reports.proofs.printed_lines.laws.unsigned_totals_have_no_sign.Goals as goal

pub returns : goal.returns
returns c = unsigned_totals
