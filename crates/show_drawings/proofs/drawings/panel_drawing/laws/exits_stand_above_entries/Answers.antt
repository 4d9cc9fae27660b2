use Rattle.show_drawings.proofs.DrawingsWords.PanelDrawing.Places.{above}
use Rattle.show_drawings.proofs.drawings.panel_drawing.laws.exits_stand_above_entries.Goals as goal

pub returns : goal.returns
returns c = above
