use Rattle.proof_reports.proofs.WiredPanels.CycleAsks.CycleLaws.{groups-asked}
use Rattle.proof_reports.proofs.wired_panels.panel_cycles.laws.groups_are_asked_for_totals.Goals as goal

pub returns : goal.returns
returns c = groups-asked
