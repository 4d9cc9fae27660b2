use Rattle.std.specs.Prelude.{All}
use Rattle.readback_charts.specs.PanelSlips.Slips.{IsWire}
use Rattle.readback_charts.proofs.panel_slips.toggles.push_wires.Given as goal

abbrev pub invariant-loop-number : goal.invariant-loop-number
invariant-loop-number l = All (IsWire l.setup) l.wires.items
