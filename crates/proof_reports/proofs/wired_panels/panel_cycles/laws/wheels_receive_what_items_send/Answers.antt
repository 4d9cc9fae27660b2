use Rattle.proof_reports.proofs.WiredPanels.CycleAsks.WheelRowsLaws.{wheels-cards, wheels-headings, wheels-totals}
use Rattle.proof_reports.proofs.wired_panels.panel_cycles.laws.wheels_receive_what_items_send.Goals as goal

pub returns : goal.returns
returns c = record { headings = wheels-headings; cards = wheels-cards; totals = wheels-totals }
