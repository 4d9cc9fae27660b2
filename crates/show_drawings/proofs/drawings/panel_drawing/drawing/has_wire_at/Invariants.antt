use Rattle.std.specs.Prelude.{◌≡◌, drop}
use Rattle.show_drawings.specs.DrawingsWords.PanelDrawing.Drawing.{has_wire_at}
use Rattle.show_drawings.proofs.drawings.panel_drawing.drawing.has_wire_at.Given as goal

-- the wires that are left decide
abbrev pub invariant-loop-wire : goal.invariant-loop-wire
invariant-loop-wire l = has_wire_at l.number (drop l.wire-index l.wires) ≡ has_wire_at l.number l.wires
