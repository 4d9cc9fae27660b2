-- Where a visitor may begin: links to the first printed character, the first sum, the first card, the first wire and the first cycle that are
-- shown, where there are such.
use Rattle.std.specs.Prelude.{ℕ, ◌+◌, ◌==◌, List, [], ◌∷◌, ◌++◌, codes, decimal, if◌then◌else◌, length}
use Rattle.card_code.specs.Lines.{lines_of}
use Rattle.show_links.specs.Links.{card_open}
use Rattle.show_sections.specs.ReportSheets.Sheets.{link_text}
use Rattle.explain_words.specs.declared.explanation_text.text.ToldWheel.{ToldWheel}
use Rattle.show_drawings.specs.declared.drawings.panel_drawing.drawing.PanelWire.{PanelWire}
use Rattle.show_sums.specs.SumSections.Sections.{first_sum}
use Rattle.show_sums.specs.declared.sum_sections.sums.PageSum.{PageSum}
use Rattle.explain_words.specs.declared.traces.parts.TracePart.{TracePart}

-- what stands around the links
unfoldable pub begin_open : List ℕ
begin_open = codes "<div class=\"begin\"><h2>Begin here</h2>\n<ul>\n"

unfoldable pub begin_close : List ℕ
begin_close = codes "</ul>\n<p>Or choose anything that is printed, punched or wired: with the pointer, or with the Tab key and Enter.</p></div>\n"

-- the link to a printed character
unfoldable pub character_words : List ℕ
character_words = codes "A printed character</a>: for each row that its wheel received, one way by which the impulse came</li>\n"

unfoldable pub character_open : ToldWheel → List ℕ
character_open told = link_text told.why.line.page told.why.line.line told.why.wheel

unfoldable pub character_entry : ToldWheel → List ℕ
character_entry told = codes "<li>" ++ character_open told ++ character_words

-- that to the first of those that are told of
abbrev pub first_character : List ToldWheel → List ℕ
first_character [] = []
first_character (told ∷ others) = character_entry told

-- the link to the first card that is shown, which has this number; an empty deck has none
unfoldable pub card_words : List ℕ
card_words = codes "A card</a>: its holes, and what became of it</li>\n"

unfoldable pub card_entry : (first : ℕ) → List ℕ
card_entry first = codes "<li>" ++ card_open first ++ card_words

abbrev pub first_card : (first : ℕ) → List (List ℕ) → List ℕ
first_card first [] = []
first_card first (card ∷ others) = card_entry first

-- the link to the first wire; a panel without one has none
unfoldable pub wire_words : List ℕ
wire_words = codes "<li><a href=\"#wire1\">A wire</a>: which hubs it joins, and the characters of which a way leads through it</li>\n"

abbrev pub first_wire : List PanelWire → List ℕ
first_wire [] = []
first_wire (wire ∷ others) = wire_words

-- the link to the first cycle of the run
unfoldable pub step_words : List ℕ
step_words = codes "<li><a href=\"#cycle1\">The first cycle</a> of the run, and from there one after another</li>\n"

-- that to a later one, which is the first that is shown
unfoldable pub later_words : (number : ℕ) → List ℕ
later_words number =
    codes "<li><a href=\"#cycle" ++ decimal number ++ codes "\">A cycle</a> of the run, and from there one after another</li>\n"

unfoldable pub cycle_words : (before : ℕ) → List ℕ
cycle_words before = if before == 0 then step_words else later_words (before + 1)

unfoldable pub first_cycle : TracePart → List ℕ
first_cycle part = if length (lines_of part.text.items) == 0 then [] else cycle_words part.before

-- the links
unfoldable pub front_links : List ToldWheel → List PageSum → (first : ℕ) → (cards : List (List ℕ)) → List ℕ
front_links told sums first cards = begin_open ++ first_character told ++ first_sum sums ++ first_card first cards

unfoldable pub begin_text : List ToldWheel → List PageSum → (first : ℕ) → (cards : List (List ℕ)) → List PanelWire → TracePart → List ℕ
begin_text told sums first cards wires part = front_links told sums first cards ++ first_wire wires ++ first_cycle part ++ begin_close
