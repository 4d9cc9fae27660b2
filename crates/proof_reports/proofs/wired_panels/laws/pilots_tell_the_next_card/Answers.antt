use Rattle.proof_reports.proofs.WiredPanels.PanelLaws.{pilots-told}
use Rattle.proof_reports.proofs.wired_panels.laws.pilots_tell_the_next_card.Goals as goal

pub returns : goal.returns
returns c = pilots-told
