use Rattle.std.specs.Prelude.{◌≡◌, ◌++◌, take}
use Rattle.std.specs.List.{flat_map}
use Rattle.std.specs.String.{string_bytes}
use Rattle.show_drawings.specs.DrawingsWords.PanelDrawing.Drawing.{block_text}
use Rattle.show_drawings.proofs.drawings.panel_drawing.drawing.write_blocks.Given as goal

-- those so far are written
abbrev pub invariant-loop-block : goal.invariant-loop-block
invariant-loop-block l = string_bytes l.text ≡ string_bytes l.initial.text ++ flat_map block_text (take l.block-index l.table)
