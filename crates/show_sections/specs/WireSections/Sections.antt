-- The elements of wires and of hubs. That of a wire has its name and the line of the chart that asks for it, that of a hub its name, what its
-- block of the drawing is called, and its wires, with their lines. Both have links to the printed characters of which an impulse came through,
-- and to the sums that the counter of the hub, or of the one that the wire enters, held when they were printed; and a picture, the panel with
-- the wire or the wires over it.
use Rattle.std.specs.Prelude.{◌≡◌, ℕ, ◌==◌, List, [], ◌∷◌, ◌++◌, codes, decimal, if◌then◌else◌}
use Rattle.std.specs.List.{flat_map}
use Rattle.hubs.specs.declared.hub.Hub.{Hub}
use Rattle.show_drawings.specs.MarkupWords.Escapes.{escaped}
use Rattle.show_drawings.specs.MarkupWords.Pieces.{numbered_words}
use Rattle.show_drawings.specs.DrawingsWords.PanelDrawing.Drawing.{AreHubs, block_name, ends_at, has_wire_at, picture_open, way_curve, wire_name}
use Rattle.hubs.specs.HubText.{hub_text}
use Rattle.show_drawings.specs.declared.drawings.panel_drawing.drawing.PanelWire.{PanelWire}
use Rattle.show_links.specs.declared.sum_places.places.SumPlace.{SumPlace}
use Rattle.show_sections.specs.ReportSheets.Sheets.{link_text}
use Rattle.show_sections.specs.WheelSections.Sections.{section_close}
use Rattle.explain_words.specs.declared.explanation_text.text.ToldWheel.{ToldWheel}
use Rattle.show_sections.specs.WireSections.Held.{held_text}
use Rattle.show_sections.specs.WireSections.Passing.{came_through}
use Rattle.show_sections.specs.declared.wire_sections.passing.Part.{Part}
use Rattle.show_sections.specs.declared.wire_sections.passing.Part.TheVariants as part

-- where a character is printed, and the character
abbrev pub place_words : (page line wheel : ℕ) → List ℕ
place_words page line wheel =
    codes "page " ++ decimal page ++ codes " line " ++ decimal line ++ codes " wheel " ++ decimal wheel ++ codes ": "

-- a link to a printed character
abbrev pub character_link : (page line wheel character : ℕ) → List ℕ
character_link page line wheel character =
    link_text page line wheel ++ place_words page line wheel ++ escaped (character ∷ []) ++ codes "</a>\n"

abbrev pub told_link : ToldWheel → List ℕ
told_link told = character_link told.why.line.page told.why.line.line told.why.wheel told.why.character

-- the links to the characters of which an impulse came through a wire or a hub, in their order
abbrev pub through_link : Part → ToldWheel → List ℕ
through_link place told = if came_through place told then told_link told else []

abbrev pub through_links : Part → List ToldWheel → List ℕ
through_links place told = flat_map (through_link place) told

-- what is said of the characters, by these links; nothing if there is none
abbrev pub some_text : List ℕ → List ℕ
some_text links = codes "<p>The ways shown for these characters lead through it:</p>\n<div>" ++ links ++ codes "</div>\n"

abbrev pub characters_text : List ℕ → List ℕ
characters_text [] = []
characters_text (sign ∷ links) = some_text (sign ∷ links)

-- what is said of a wire or of a hub by its number: of which characters an impulse came through, and which sums the counter of this hub held;
-- for a wire that is the one that it enters
unfoldable pub part_text : List ToldWheel → List SumPlace → Part → Hub → List ℕ
part_text told sums place hub = characters_text (through_links place told) ++ held_text sums hub

-- the same, or else that there is nothing
unfoldable pub none_text : List ℕ
none_text = codes "<p>No way to a character shown leads through it.</p>\n"

abbrev pub said_or_none : List ℕ → List ℕ
said_or_none [] = none_text
said_or_none (sign ∷ said) = sign ∷ said

abbrev pub through_text : List ToldWheel → List SumPlace → Part → Hub → List ℕ
through_text told sums place hub = said_or_none (part_text told sums place hub)

-- the line of the chart that asks for a wire, where one does
abbrev pub line_open : ℕ → List ℕ
line_open line = codes ", for which <a href=\"#line" ++ decimal line ++ codes "\">"

abbrev pub line_words : ℕ → List ℕ
line_words line = codes "line " ++ decimal line ++ codes " of the chart</a> asks"

abbrev pub line_link : ℕ → List ℕ
line_link line = line_open line ++ line_words line

abbrev pub asking_text : ℕ → List ℕ
asking_text line = if line == 0 then [] else line_link line

-- a wire over the panel
abbrev pub path_text : PanelWire → List ℕ
path_text wire = codes "<path d=\"" ++ way_curve (wire.exit ∷ wire.entry ∷ []) ++ codes "\"/>"

-- the front of the element of a wire by its number
abbrev pub wire_open : ℕ → List ℕ
wire_open number = codes "<section id=\"wire" ++ decimal number ++ codes "\"><a href=\"#panel\">back</a>\n<p>The wire "

-- the first sentence: its name, and who asks for it
abbrev pub wire_head : ℕ → PanelWire → List ℕ
wire_head number wire = wire_open number ++ wire_name wire ++ asking_text wire.line ++ codes ".</p>\n"

-- the element of a wire, and those of all wires; the first wire has number 1
abbrev pub wire_section : List ToldWheel → List SumPlace → ℕ → PanelWire → List ℕ
wire_section told sums number wire =
    wire_head number wire ++ through_text told sums (part.Wire wire) wire.entry ++ picture_open ++ path_text wire ++ section_close

abbrev pub wire_sections_text : List PanelWire → List ToldWheel → List SumPlace → List ℕ
wire_sections_text wires told sums = numbered_words (wire_section told sums) 1 wires

-- a link to a wire by its number, and the line that asks for it
abbrev pub wire_link_open : ℕ → List ℕ
wire_link_open number = codes "<p><a href=\"#wire" ++ decimal number ++ codes "\">"

abbrev pub wire_link : ℕ → PanelWire → List ℕ
wire_link number wire = wire_link_open number ++ wire_name wire ++ codes "</a>" ++ asking_text wire.line ++ codes "</p>\n"

-- the link to a wire, where it has an end at a hub
abbrev pub link_at : (hub : ℕ) → ℕ → PanelWire → List ℕ
link_at hub number wire = if ends_at hub wire then wire_link number wire else []

-- the same wire over the panel
abbrev pub path_at : (hub : ℕ) → PanelWire → List ℕ
path_at hub wire = if ends_at hub wire then path_text wire else []

-- the front of the element of a hub
abbrev pub hub_open : ℕ → List ℕ
hub_open number = codes "<section id=\"hub" ++ decimal number ++ codes "\"><a href=\"#panel\">back</a>\n<p>The hub "

unfoldable pub block_part : Hub → List ℕ
block_part hub = codes " (" ++ block_name hub ++ codes "). Its wires:</p>\n"

abbrev pub hub_head : ℕ → Hub → List ℕ
hub_head number hub = hub_open number ++ hub_text hub ++ block_part hub

-- the element of a hub by its number, where a wire has an end there
abbrev pub hub_element : List PanelWire → List ToldWheel → List SumPlace → ℕ → Hub → List ℕ
hub_element wires told sums number hub =
    hub_head number hub ++ numbered_words (link_at number) 1 wires ++ through_text told sums (part.Hub number) hub ++ picture_open
    ++ flat_map (path_at number) wires ++ section_close

abbrev pub hub_section : List PanelWire → List ToldWheel → List SumPlace → ℕ → Hub → List ℕ
hub_section wires told sums number hub = if has_wire_at number wires then hub_element wires told sums number hub else []

-- The elements of wires, and behind them those of the hubs at which they have their ends. The sums have elements on the page.
pub record AreWireSections (wires : List PanelWire) (told : List ToldWheel) (sums : List SumPlace) (text : List ℕ) : Type 0 where
  pub hubs : List Hub
  pub all : AreHubs hubs
  pub spelled : text ≡ wire_sections_text wires told sums ++ numbered_words (hub_section wires told sums) 1 hubs
