use Rattle.proof_reports.proofs.WiredPanels.CycleAsks.LinePlaces.BodyLines.{body-placed}
use Rattle.proof_reports.proofs.wired_panels.panel_cycles.line_places.laws.body_lines_are_placed.Goals as goal

pub returns : goal.returns
returns c = body-placed
