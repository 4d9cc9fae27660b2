use Rattle.proof_reports.proofs.PrintedLines.Apart.{lawful_items}
use Rattle.proof_reports.proofs.printed_lines.laws.items_keep_apart.Goals as goal

pub returns : goal.returns
returns c = lawful_items
