use Rattle.proof_reports.proofs.WiredPanels.CarriesAgree.{can-join}
use Rattle.proof_reports.proofs.wired_panels.laws.chart_wires_can_join.Goals as goal

pub returns : goal.returns
returns c = can-join
