-- The two cards between which a total was printed: the card after which its cycle ran, and the next one, one below the other. Each that is
-- shown is a picture, with the names of the fields above it, and links to its element.
use Rattle.std.specs.Prelude.{ℕ, ◌+◌, List, [], ◌++◌, codes, if◌then◌else◌}
use Rattle.show_drawings.specs.DrawingsWords.CardDrawing.Drawings.{shown_card}
use Rattle.show_links.specs.Links.{card_name, card_open, is_shown}
use Rattle.show_links.specs.declared.shown.Shown.{Shown}

-- a card, which is a link
unfoldable pub picture_open : List ℕ
picture_open = codes "<svg xmlns=\"http://www.w3.org/2000/svg\" viewBox=\"0 -70 1250 510\"><title>"

unfoldable pub card_front : ℕ → List ℕ
card_front number = card_open number ++ picture_open ++ card_name number ++ codes "</title>"

unfoldable pub card_picture : ℕ → List ℕ
card_picture number = card_front number ++ shown_card number ++ codes "</svg></a>\n"

-- if it is shown
abbrev pub card_at : Shown → ℕ → List ℕ
card_at shown number = if is_shown shown number then card_picture number else []

-- the card with this number, and the next one
unfoldable pub cards_between : Shown → (card : ℕ) → List ℕ
cards_between shown card = card_at shown card ++ card_at shown (card + 1)
