use Rattle.proof_reports.proofs.WiredPanels.CycleAsks.LinePlaces.Placements.{starts}
use Rattle.proof_reports.proofs.wired_panels.panel_cycles.line_places.laws.runs_start_before_all_lines.Goals as goal

pub returns : goal.returns
returns c = starts
