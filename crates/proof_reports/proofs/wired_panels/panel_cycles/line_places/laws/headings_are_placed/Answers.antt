use Rattle.proof_reports.proofs.WiredPanels.CycleAsks.LinePlaces.HeadingLines.{headings-placed}
use Rattle.proof_reports.proofs.WiredPanels.CycleAsks.LinePlaces.Placements.{ready-within}
use Rattle.proof_reports.proofs.wired_panels.panel_cycles.line_places.laws.headings_are_placed.Goals as goal

pub returns-clause-on_a_new_page : goal.returns-clause-on_a_new_page
returns-clause-on_a_new_page c = headings-placed

pub returns-clause-within_a_page : goal.returns-clause-within_a_page
returns-clause-within_a_page c = ready-within
