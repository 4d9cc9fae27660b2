-- The elements of cards: which card it is, the card as a picture, in which cycles it stood at the reading stations, into which sums it went,
-- and its fields.
use Rattle.std.specs.Prelude.{ℕ, ◌+◌, ◌-◌, List, [], ◌++◌, codes, decimal, if◌then◌else◌, nat_lt}
use Rattle.chart_lines.specs.declared.charts.chart.Line.{Line}
use Rattle.show_drawings.specs.DrawingsWords.CardDrawing.Drawings.{shown_card}
use Rattle.show_sums.specs.CardSections.Fields.{card_fields}
use Rattle.show_sums.specs.CardSections.Readings.{card_run}
use Rattle.show_drawings.specs.MarkupWords.Pieces.{numbered_words}
use Rattle.show_links.specs.Links.{card_open}
use Rattle.show_links.specs.declared.shown.Shown.{Shown}
use Rattle.show_links.specs.declared.shown.ShownRun.{ShownRun}
use Rattle.show_sums.specs.declared.sum_sections.sums.PageSum.{PageSum}

-- the front of an element, with its name
unfoldable pub section_open : ℕ → List ℕ
section_open number = codes "<section id=\"card" ++ decimal number ++ codes "\">"

-- the link to the next card; the last one that is shown has none
unfoldable pub next_text : (number : ℕ) → Shown → List ℕ
next_text number shown = if nat_lt number shown.last then card_open (number + 1) ++ codes "next card</a> " else []

-- the link to the card before; the first one that is shown has none
unfoldable pub before_text : (number : ℕ) → Shown → List ℕ
before_text number shown = if nat_lt shown.first number then card_open (number - 1) ++ codes "card before</a> " else []

-- the link back, and which card it is
unfoldable pub back_text : ℕ → List ℕ
back_text number = codes "<a href=\"#cards\">back to the cards</a>\n<h2>Card " ++ decimal number ++ codes "</h2>\n"

unfoldable pub links_text : (number : ℕ) → Shown → List ℕ
links_text number shown = section_open number ++ next_text number shown ++ before_text number shown ++ back_text number

-- the picture, with the names of the fields above the card
unfoldable pub picture_open : List ℕ
picture_open = codes "<svg xmlns=\"http://www.w3.org/2000/svg\" viewBox=\"0 -70 1250 510\">"

unfoldable pub picture_text : ℕ → List ℕ
picture_text number = picture_open ++ shown_card number ++ codes "</svg>\n"

unfoldable pub front_text : (number : ℕ) → Shown → List ℕ
front_text number shown = links_text number shown ++ picture_text number

-- the front of an element, and what became of the card by the part of the trace that is shown
unfoldable pub section_front : ShownRun → (trace : List ℕ) → List PageSum → (number : ℕ) → List ℕ
section_front shown trace sums number = front_text number shown.cards ++ card_run shown trace sums number

-- the element of a card
unfoldable pub section_text : List Line → ShownRun → (trace : List ℕ) → List PageSum → (number : ℕ) → (card : List ℕ) → List ℕ
section_text lines shown trace sums number card =
    section_front shown trace sums number ++ card_fields lines card ++ codes "</section>\n"

-- those of the cards of a deck that are shown
unfoldable pub sections_text : List Line → ShownRun → (trace : List ℕ) → List PageSum → List (List ℕ) → List ℕ
sections_text lines shown trace sums cards = numbered_words (section_text lines shown trace sums) shown.cards.first cards
