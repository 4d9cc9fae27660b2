-- The drawing as SVG: for each block a label and the dots of its rows, for each wire of a list, in its order, a curve, and a larger dot
-- for each hub at which a wire has an end, in the order of their numbers. These wires and hubs link to elements that are named for their
-- numbers.
use Rattle.std.specs.Prelude.{◌≡◌, ℕ, ◌-◌, ◌==◌, ◌%◌, ◌||◌, Bool, true, false, List, [], ◌∷◌, ◌++◌, Option, Some, None, codes, decimal, if◌then◌else◌, map}
use Rattle.std.specs.List.{flat_map, list_any, range_with_len}
use Rattle.hubs.specs.HubTable.HubTable.{row_of}
use Rattle.hubs.specs.declared.hub_table.letters.Letters.{Letters}
use Rattle.hubs.specs.declared.hub_table.letters.Letters.TheVariants.{FR, SR, CX, GX, CO, BAN, BAT, PIN, PIT, SX, IX, CSD, CSZ, EM, CC, PX, HX, CA, CB, GE, PL, MI, RO, BT, CI, BAC, PIC, PIX, SE, SI, SO, IE, CSE, W, ST, SP, SK, RS}
use Rattle.hubs.specs.HubText.{hub_text}
use Rattle.hubs.specs.Hubs.{letters_of, number_of}
use Rattle.hubs.specs.declared.hub.Hub.{Hub}
use Rattle.show_drawings.specs.MarkupWords.Pieces.{numbered_words}
use Rattle.show_drawings.specs.DrawingsWords.PanelDrawing.Blocks.{block_in, blocks, place_of}
use Rattle.show_drawings.specs.declared.drawings.panel_drawing.blocks.Block.{Block}
use Rattle.show_drawings.specs.declared.drawings.panel_drawing.blocks.Coordinates.{Coordinates}
use Rattle.show_drawings.specs.declared.drawings.panel_drawing.drawing.PanelWire.{PanelWire}

-- what a kind of hub is called
abbrev pub kind_words : Letters → List ℕ
kind_words FR = codes "FIRST READING: the card behind it, columns 1 to 80"
kind_words SR = codes "SECOND READING: the card whose line is printed, columns 1 to 80"
kind_words CX = codes "the cards differ"
kind_words GX = codes "wheels"
kind_words CO = codes "carry"
kind_words BAN = codes "balance +"
kind_words BAT = codes "balance -"
kind_words PIN = codes "pilots, normal"
kind_words PIT = codes "pilots, transferred"
kind_words SX = codes "STORAGE out, 1 to 4"
kind_words IX = codes "first card of a group, out"
kind_words CSD = codes "splits, rows 9 to 0"
kind_words CSZ = codes "splits, rows 11 and 12"
kind_words EM = codes "EMITTERS 1 to 8"
kind_words CC = codes "card"
kind_words PX = codes "program"
kind_words HX = codes "heading"
kind_words CA = codes "comparing, one card"
kind_words CB = codes "comparing, the other card"
kind_words GE = codes "wheels"
kind_words PL = codes "+"
kind_words MI = codes "-"
kind_words RO = codes "out"
kind_words BT = codes "test"
kind_words CI = codes "carry"
kind_words BAC = codes "balance"
kind_words PIC = codes "pilots, common"
kind_words PIX = codes "pilots, pickup"
kind_words SE = codes "STORAGE in, 1 to 4"
kind_words SI = codes "in"
kind_words SO = codes "out"
kind_words IE = codes "first card of a group, in"
kind_words CSE = codes "splits, in"
kind_words W = codes "PRINT WHEELS 1 to 120"
kind_words ST = codes "total due"
kind_words SP = codes "space"
kind_words SK = codes "skip to a channel"
kind_words RS = codes "page"

-- how many wheels the groups of a block have, where its kind is called by its wheels
abbrev pub counts_wheels : Letters → Bool
counts_wheels GX = true
counts_wheels GE = true
counts_wheels kind = false

abbrev pub width_text : Block → List ℕ
width_text block = if counts_wheels block.kind then decimal block.width ++ codes " " else []

-- the front of a label; those of counters are written small
abbrev pub label_open : ℕ → List ℕ
label_open width = if width == 0 then codes "<text" else codes "<text class=\"small\""

unfoldable pub label_left : ℕ → List ℕ
label_left left = codes " x=\"" ++ decimal left

unfoldable pub label_top : ℕ → List ℕ
label_top top = codes "\" y=\"" ++ decimal top ++ codes "\" dy=\"-11\">"

abbrev pub label_place : Block → List ℕ
label_place block = label_left block.left ++ label_top block.top

unfoldable pub block_words : Block → List ℕ
block_words block = width_text block ++ kind_words block.kind

unfoldable pub label_words : Block → List ℕ
label_words block = block_words block ++ codes "</text>\n"

-- a label, above its block
abbrev pub label_text : Block → List ℕ
label_text block = label_open block.width ++ label_place block ++ label_words block

-- what stands above the blocks of counters, on the side of the exits and on that of the entries
abbrev pub counters_words : (is_exit : Bool) → List ℕ
counters_words is_exit = if is_exit then codes "COUNTERS, out, 1 to 8" else codes "COUNTERS, in, 1 to 8"

-- what a block is called where it stands alone: the words of its label, and before them, if it is one of counters, those above these blocks
unfoldable pub counters_front : Block → List ℕ
counters_front block = counters_words (row_of block.kind).is_exit ++ codes ": "

abbrev pub side_words : Block → List ℕ
side_words block = if block.width == 0 then [] else counters_front block

unfoldable pub called_text : Block → List ℕ
called_text block = side_words block ++ block_words block

-- what the block of a hub is called
abbrev pub called_numbered : Option ℕ → List ℕ
called_numbered None = []
called_numbered (Some number) = called_text (block_in blocks number)

abbrev pub block_name : Hub → List ℕ
block_name hub = called_numbered (number_of hub)

-- The dots of a block: a dotted line for each of its rows. The class tells how far its dots stand apart.
abbrev pub dots_open : Block → List ℕ
dots_open block = codes "<path class=\"dots" ++ decimal block.across ++ codes "\" d=\"M" ++ decimal block.left ++ codes " " ++ decimal block.top

abbrev pub next_row : Block → List ℕ
next_row block = codes "m-" ++ decimal block.run ++ codes " 14h" ++ decimal block.run

abbrev pub next_rows : Block → List ℕ
next_rows block = flat_map (λ row. next_row block) (range_with_len 1 (block.rows - 1))

abbrev pub dots_text : Block → List ℕ
dots_text block = dots_open block ++ codes "h" ++ decimal block.run ++ next_rows block ++ codes "\"/>\n"

abbrev pub block_text : Block → List ℕ
block_text block = label_text block ++ dots_text block

-- the centre and the size of a larger dot
abbrev pub centre_text : Coordinates → List ℕ
centre_text place = codes " cx=\"" ++ decimal place.x ++ codes "\" cy=\"" ++ decimal place.y ++ codes "\" r=\"5\">"

-- a larger dot, and the name of its hub
unfoldable pub dot_text : Hub → List ℕ
dot_text hub = codes "<circle" ++ centre_text (place_of hub) ++ codes "<title>" ++ hub_text hub ++ codes "</title></circle>"

-- whether a hub has this number
abbrev pub is_number : ℕ → Option ℕ → Bool
is_number number None = false
is_number number (Some other) = number == other

abbrev pub has_number : ℕ → Hub → Bool
has_number number hub = is_number number (number_of hub)

-- whether a wire has an end at the hub with this number, and whether one of some wires has
abbrev pub ends_at : ℕ → PanelWire → Bool
ends_at number wire = has_number number wire.exit || has_number number wire.entry

abbrev pub has_wire_at : ℕ → List PanelWire → Bool
has_wire_at number wires = list_any (ends_at number) wires

-- a hub by its number: a larger dot, which links to the element of the hub, where a wire has an end there
abbrev pub linked_dot : ℕ → Hub → List ℕ
linked_dot number hub = codes "<a href=\"#hub" ++ decimal number ++ codes "\">" ++ dot_text hub ++ codes "</a>\n"

abbrev pub hub_dot : List PanelWire → ℕ → Hub → List ℕ
hub_dot wires number hub = if has_wire_at number wires then linked_dot number hub else []

-- a pen set down at a place
abbrev pub pen_at : Coordinates → List ℕ
pen_at place = codes "M" ++ decimal place.x ++ codes " " ++ decimal place.y

-- a curve from one place to another: it leaves the first and arrives at the second straight up or down, through the middle
abbrev pub curve_between : Coordinates → Coordinates → List ℕ
curve_between from to =
    codes "C" ++ decimal from.x ++ codes " 470 " ++ decimal to.x ++ codes " 470 " ++ decimal to.x ++ codes " " ++ decimal to.y

-- a line to a place
abbrev pub line_to : Coordinates → List ℕ
line_to place = codes "L" ++ decimal place.x ++ codes " " ++ decimal place.y

-- the name of a wire
abbrev pub wire_name : PanelWire → List ℕ
wire_name wire = hub_text wire.exit ++ codes " -&gt; " ++ hub_text wire.entry

-- what stands before the curve of a wire: a link to the element of the wire by its number, and its colour, one of twelve, by the number of
-- the line that asks for it
abbrev pub link_text : ℕ → List ℕ
link_text number = codes "<a href=\"#wire" ++ decimal number ++ codes "\">"

abbrev pub colour_text : ℕ → List ℕ
colour_text line = codes "<path class=\"c" ++ decimal (line % 12) ++ codes "\" d=\""

-- a wire: the data of its path, and the whole, by its number
abbrev pub wire_path : PanelWire → List ℕ
wire_path wire = pen_at (place_of wire.exit) ++ curve_between (place_of wire.exit) (place_of wire.entry)

unfoldable pub wire_text : ℕ → PanelWire → List ℕ
wire_text number wire =
    link_text number ++ colour_text wire.line ++ wire_path wire ++ codes "\"><title>" ++ wire_name wire ++ codes "</title></path></a>\n"

-- the way of an impulse from hub to hub: a curve along a wire, which leads to an entry, and a line through a contact, to its exit
abbrev pub step_text : Hub → Hub → List ℕ
step_text from to =
    if (row_of (letters_of to)).is_exit then line_to (place_of to) else curve_between (place_of from) (place_of to)

abbrev pub steps_text : Hub → List Hub → List ℕ
steps_text from [] = []
steps_text from (to ∷ others) = step_text from to ++ steps_text to others

abbrev pub way_curve : List Hub → List ℕ
way_curve [] = []
way_curve (exit ∷ others) = pen_at (place_of exit) ++ steps_text exit others

-- the frame of the drawing; behind what is drawn, whose id is board, a marker that shows it too, whose id is background
unfoldable pub plate_open : List ℕ
plate_open = codes "<svg id=\"panel\" xmlns=\"http://www.w3.org/2000/svg\" viewBox=\"0 0 1250 890\"><g id=\"board\"><rect class=\"plate\" width=\"1250\" height=\"890\" rx=\"15\"/>\n<g class=\"blocks\">\n"

unfoldable pub counters_place : (top : ℕ) → List ℕ
counters_place top = codes "<text x=\"30\" y=\"" ++ decimal top ++ codes "\">"

unfoldable pub counters_label : (is_exit : Bool) → (top : ℕ) → List ℕ
counters_label is_exit top = counters_place top ++ counters_words is_exit ++ codes "</text>\n"

unfoldable pub drawing_open : List ℕ
drawing_open = plate_open ++ counters_label true 262 ++ counters_label false 562

unfoldable pub drawing_between : List ℕ
drawing_between = codes "</g>\n<g class=\"wires\">\n"

unfoldable pub drawing_behind : List ℕ
drawing_behind = codes "</g>\n<g class=\"hubs\">\n"

unfoldable pub drawing_close : List ℕ
drawing_close = codes "</g>\n</g>\n<marker id=\"background\" markerUnits=\"userSpaceOnUse\"><use href=\"#board\"/></marker></svg>\n"

-- the front of a picture over the panel, of the same size: an empty path, at which the style sheet shows the marker, and with it the panel
unfoldable pub picture_open : List ℕ
picture_open = codes "<svg xmlns=\"http://www.w3.org/2000/svg\" viewBox=\"0 0 1250 890\"><path class=\"background\" d=\"M0 0h0\"/>"

-- these are the hubs of the panel, each once, in the order of their numbers
abbrev pub AreHubs : List Hub → Type 0
AreHubs hubs = map number_of hubs ≡ map (λ number. Some number) (range_with_len 1 1936)

-- The drawing of some wires. It has each block of the panel once, each wire of the list, in its order, once, and each hub at which one of
-- them has an end once. The first wire has number 1.
pub record IsDrawing (wires : List PanelWire) (text : List ℕ) : Type 0 where
  pub hubs : List Hub
  pub all : AreHubs hubs
  pub spelled : text
      ≡ drawing_open ++ flat_map block_text blocks ++ drawing_between ++ numbered_words wire_text 1 wires ++ drawing_behind
      ++ numbered_words (hub_dot wires) 1 hubs ++ drawing_close
