use Rattle.proof_reports.proofs.WiredPanels.CycleAsks.LinePlaces.Placements.{lines-placed}
use Rattle.proof_reports.proofs.wired_panels.panel_cycles.line_places.laws.lines_are_placed.Goals as goal

pub returns : goal.returns
returns c = lines-placed
