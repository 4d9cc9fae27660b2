use Rattle.proof_reports.proofs.WiredPanels.CycleAsks.LinePlaces.UnprintedKinds.{unprinted-silent}
use Rattle.proof_reports.proofs.wired_panels.panel_cycles.line_places.laws.unprinted_kinds_ask_for_nothing.Goals as goal

pub returns : goal.returns
returns c = unprinted-silent
