use Rattle.std.specs.Prelude.{All}
use Rattle.readback_charts.specs.PanelSlips.Slips.{IsMoveOf}
use Rattle.readback_charts.proofs.panel_slips.moves.moves_near.Given as goal

abbrev pub invariant-loop-place : goal.invariant-loop-place
invariant-loop-place l = All (IsMoveOf l.wires) l.moves.items
