use Rattle.std.specs.Prelude.{◌≡◌, ◌++◌, take}
use Rattle.show_drawings.specs.DrawingsWords.CardDrawing.Drawings.{characters_of}
use Rattle.show_drawings.proofs.drawings.card_drawing.drawings.push_characters.Given as goal

-- those so far are added
abbrev pub invariant-loop-column : goal.invariant-loop-column
invariant-loop-column l = l.characters.items ≡ l.initial.characters.items ++ characters_of (take l.column-index l.columns)
