use Rattle.proof_reports.proofs.WiredPanels.CycleAsks.CycleLaws.{carriage-told}
use Rattle.proof_reports.proofs.wired_panels.panel_cycles.laws.carriage_does_what_is_asked.Goals as goal

pub returns : goal.returns
returns c = carriage-told
