use Rattle.std.specs.Prelude.{All}
use Rattle.readback_charts.specs.PanelSlips.Slips.{IsMoveOf}
use Rattle.readback_charts.proofs.panel_slips.moves.push_moves.Given as goal

abbrev pub invariant-loop-to : goal.invariant-loop-to
invariant-loop-to l = All (IsMoveOf l.wires) l.moves.items
