use Rattle.std.specs.Prelude.{All}
use Rattle.readback_charts.specs.PanelSlips.Slips.{IsWire}
use Rattle.readback_charts.proofs.panel_slips.toggles.wires_of.Given as goal

abbrev pub invariant-loop-exit : goal.invariant-loop-exit
invariant-loop-exit l = All (IsWire l.setup) l.wires.items
