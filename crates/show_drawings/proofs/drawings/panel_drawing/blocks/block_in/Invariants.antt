use Rattle.std.specs.Prelude.{◌≡◌, drop}
use Rattle.show_drawings.specs.DrawingsWords.PanelDrawing.Blocks.{block_in}
use Rattle.show_drawings.proofs.drawings.panel_drawing.blocks.block_in.Given as goal

-- the block is among those that are left
abbrev pub invariant-loop-block : goal.invariant-loop-block
invariant-loop-block l = block_in (drop l.block-index l.table) l.number ≡ block_in l.table l.number
