use Rattle.show_drawings.proofs.DrawingsWords.CardDrawing.Punched.{all_punched, punched_all}
use Rattle.show_drawings.proofs.drawings.card_drawing.laws.holes_are_punches.Goals as goal

pub returns-clause-holes : goal.returns-clause-holes
returns-clause-holes c = all_punched

pub returns-clause-punches : goal.returns-clause-punches
returns-clause-punches c = punched_all
