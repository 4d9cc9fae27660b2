use Rattle.std.specs.Prelude.{◌≡◌, ◌++◌, drop}
use Rattle.std.specs.String.{string_bytes}
use Rattle.show_drawings.specs.DrawingsWords.PanelDrawing.Drawing.{steps_text}
use Rattle.show_drawings.proofs.drawings.panel_drawing.drawing.write_steps.Given as goal

-- what is written, and the steps that are left
abbrev pub invariant-loop-to : goal.invariant-loop-to
invariant-loop-to l =
    string_bytes l.text ++ steps_text l.from (drop l.to-index l.others) ≡ string_bytes l.initial.text ++ steps_text l.fn.exit l.others
