use Rattle.report_misfits.proofs.OpenTotals.{cards_add}
use Rattle.report_misfits.proofs.laws.cards_add_to_open_totals.Goals as goal

pub returns : goal.returns
returns c = cards_add
