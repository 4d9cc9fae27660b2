use Rattle.proof_reports.proofs.WiredPanels.CycleAsks.LinePlaces.CyclesDue.{headings-come}
use Rattle.proof_reports.proofs.wired_panels.panel_cycles.line_places.laws.headings_come_with_pages.Goals as goal

pub returns : goal.returns
returns c = headings-come
