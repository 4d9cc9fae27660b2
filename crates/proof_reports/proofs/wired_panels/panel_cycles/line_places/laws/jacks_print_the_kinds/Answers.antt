use Rattle.proof_reports.proofs.WiredPanels.CycleAsks.LinePlaces.BodyLines.{jacks-print}
use Rattle.proof_reports.proofs.wired_panels.panel_cycles.line_places.laws.jacks_print_the_kinds.Goals as goal

pub returns : goal.returns
returns c = jacks-print
