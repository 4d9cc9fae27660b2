-- A deck as markup: the names of the fields, and below them each card, which links to its element.
use Rattle.std.specs.Prelude.{ℕ, List, ◌++◌, codes, length}
use Rattle.std.specs.List.{flat_map, range_with_len}
use Rattle.show_drawings.specs.DrawingsWords.CardDrawing.Drawings.{shown_card}
use Rattle.show_links.specs.Links.{card_name, card_open}

-- a card of the deck, by its number: its picture, which is a link
unfoldable pub entry_picture : List ℕ
entry_picture = codes "<svg xmlns=\"http://www.w3.org/2000/svg\" viewBox=\"0 0 1250 440\"><title>"

unfoldable pub entry_front : ℕ → List ℕ
entry_front number = card_open number ++ entry_picture ++ card_name number ++ codes "</title>"

unfoldable pub entry_text : ℕ → List ℕ
entry_text number = entry_front number ++ shown_card number ++ codes "</svg></a>\n"

-- what stands before the cards: a picture of the space above a card, where the names of the fields are
unfoldable pub deck_open : List ℕ
deck_open = codes "<div class=\"deck\"><svg xmlns=\"http://www.w3.org/2000/svg\" viewBox=\"0 -70 1250 70\"><path class=\"names\" d=\"M0 0h0\"/></svg>\n"

-- cards, of which the first has this number
unfoldable pub deck_text : (first : ℕ) → List (List ℕ) → List ℕ
deck_text first cards = deck_open ++ flat_map entry_text (range_with_len first (length cards)) ++ codes "</div>\n"
