use Rattle.std.specs.Prelude.{◌≡◌, ◌+◌, ◌++◌, drop}
use Rattle.std.specs.String.{string_bytes}
use Rattle.show_drawings.specs.MarkupWords.Pieces.{numbered_words}
use Rattle.show_drawings.specs.DrawingsWords.PanelDrawing.Drawing.{wire_text}
use Rattle.show_drawings.proofs.drawings.panel_drawing.drawing.write_wires.Given as goal

-- what is written, and the wires that are left
abbrev pub invariant-loop-place : goal.invariant-loop-place
invariant-loop-place l =
    string_bytes l.text ++ numbered_words wire_text (l.place + 1) (drop l.place l.wires)
    ≡ string_bytes l.initial.text ++ numbered_words wire_text 1 l.wires
