use Rattle.proof_reports.proofs.WiredPanels.PanelLaws.{units-told}
use Rattle.proof_reports.proofs.wired_panels.laws.units_hold_the_card.Goals as goal

pub returns : goal.returns
returns c = units-told
