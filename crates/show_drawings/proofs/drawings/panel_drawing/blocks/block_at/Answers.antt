use Rattle.show_drawings.specs.DrawingsWords.PanelDrawing.Blocks.{blocks}
use Rattle.show_drawings.proofs.drawings.panel_drawing.blocks.block_at.Goals as goal

pub returns : goal.returns
unfolding blocks
returns c = c.block_in.ensures
