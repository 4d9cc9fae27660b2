use Rattle.std.specs.Prelude.{◌≡◌, ◌++◌}
use Rattle.std.specs.List.{flat_map, range_with_len}
use Rattle.std.specs.String.{string_bytes}
use Rattle.show_drawings.specs.DrawingsWords.PanelDrawing.Drawing.{next_row}
use Rattle.show_drawings.proofs.drawings.panel_drawing.drawing.write_next_rows.Given as goal

-- the rows so far are written
abbrev pub invariant-loop-row : goal.invariant-loop-row
invariant-loop-row l =
    string_bytes l.text ≡ string_bytes l.initial.text ++ flat_map (λ row. next_row l.block) (range_with_len 1 l._row)
