use Rattle.readback_charts.specs.PanelSlips.Slips.{BeginsWith}
use Rattle.readback_charts.proofs.panel_slips.toggles.push_in.Given as goal

abbrev pub invariant-loop-wire : goal.invariant-loop-wire
invariant-loop-wire l = BeginsWith l.initial.toggles.items l.toggles.items
