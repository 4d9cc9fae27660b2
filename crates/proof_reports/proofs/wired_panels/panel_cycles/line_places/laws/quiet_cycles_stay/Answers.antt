use Rattle.proof_reports.proofs.WiredPanels.CycleAsks.LinePlaces.Placements.{quiet-stays}
use Rattle.proof_reports.proofs.WiredPanels.CycleAsks.LinePlaces.UnprintedKinds.{unprinted-stays}
use Rattle.proof_reports.proofs.wired_panels.panel_cycles.line_places.laws.quiet_cycles_stay.Goals as goal

pub returns-clause-quiet : goal.returns-clause-quiet
returns-clause-quiet c = quiet-stays

pub returns-clause-unprinted : goal.returns-clause-unprinted
returns-clause-unprinted c = unprinted-stays
