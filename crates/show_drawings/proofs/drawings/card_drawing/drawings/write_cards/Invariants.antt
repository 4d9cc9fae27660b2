use Rattle.std.specs.Prelude.{◌≡◌, ◌+◌, ◌++◌, drop}
use Rattle.std.specs.String.{string_bytes}
use Rattle.show_drawings.specs.MarkupWords.Pieces.{numbered_words}
use Rattle.show_drawings.specs.DrawingsWords.CardDrawing.Drawings.{card_text}
use Rattle.show_drawings.proofs.drawings.card_drawing.drawings.write_cards.Given as goal

-- what is written, and the cards that are left
abbrev pub invariant-loop-place : goal.invariant-loop-place
invariant-loop-place l =
    string_bytes l.text ++ numbered_words card_text (l.first + l.place) (drop l.place l.cards)
    ≡ string_bytes l.initial.text ++ numbered_words card_text l.first l.cards
