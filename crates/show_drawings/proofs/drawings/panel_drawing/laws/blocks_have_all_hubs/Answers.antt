use Rattle.show_drawings.proofs.DrawingsWords.PanelDrawing.Places.{all_blocks}
use Rattle.show_drawings.proofs.drawings.panel_drawing.laws.blocks_have_all_hubs.Goals as goal

pub returns : goal.returns
returns c = all_blocks
