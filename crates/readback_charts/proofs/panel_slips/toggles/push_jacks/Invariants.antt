use Rattle.readback_charts.specs.PanelSlips.Slips.{BeginsWith}
use Rattle.readback_charts.proofs.panel_slips.toggles.push_jacks.Given as goal

abbrev pub invariant-loop-place : goal.invariant-loop-place
invariant-loop-place l = BeginsWith l.initial.toggles.items l.toggles.items
