use Rattle.std.specs.String.{string_bytes}
use Rattle.show_drawings.specs.DrawingsWords.PanelDrawing.Drawing.{hub_dot}
use Rattle.show_drawings.specs.DrawingsWords.PanelDrawing.Helper.{GainsHubs}
use Rattle.show_drawings.proofs.drawings.panel_drawing.drawing.write_hubs.Given as goal

-- the hubs so far are written
abbrev pub invariant-loop-passed : goal.invariant-loop-passed
invariant-loop-passed l = GainsHubs (hub_dot l.wires) l.passed (string_bytes l.initial.text) (string_bytes l.text)
