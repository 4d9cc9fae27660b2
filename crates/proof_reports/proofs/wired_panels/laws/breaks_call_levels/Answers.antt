use Rattle.proof_reports.proofs.WiredPanels.PanelLaws.{levels-called}
use Rattle.proof_reports.proofs.wired_panels.laws.breaks_call_levels.Goals as goal

pub returns : goal.returns
returns c = levels-called
