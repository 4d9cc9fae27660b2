use Rattle.show_drawings.proofs.DrawingsWords.PanelDrawing.Places.{right_of_margin, under_margin}
use Rattle.show_drawings.proofs.drawings.panel_drawing.laws.places_are_on_the_drawing.Goals as goal

pub returns-clause-right : goal.returns-clause-right
returns-clause-right c = right_of_margin

pub returns-clause-down : goal.returns-clause-down
returns-clause-down c = under_margin
