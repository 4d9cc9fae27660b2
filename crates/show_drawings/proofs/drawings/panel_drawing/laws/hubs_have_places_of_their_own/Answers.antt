use Rattle.show_drawings.proofs.DrawingsWords.PanelDrawing.Places.{places_of_their_own}
use Rattle.show_drawings.proofs.drawings.panel_drawing.laws.hubs_have_places_of_their_own.Goals as goal

pub returns : goal.returns
returns c = places_of_their_own
