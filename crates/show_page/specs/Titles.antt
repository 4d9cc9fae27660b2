-- What stands at the head of the page: its title, and how many cards, lines and wires there are.
use Rattle.std.specs.Prelude.{ℕ, ◌==◌, List, [], ◌∷◌, ◌++◌, codes, if◌then◌else◌}
use Rattle.chart_lines.specs.declared.charts.chart.Line.{Line}
use Rattle.chart_lines.specs.declared.charts.statement.Statement.{Statement}
use Rattle.chart_lines.specs.declared.charts.statement.Statement.TheVariants as says
use Rattle.show_drawings.specs.MarkupWords.Escapes.{escaped}
use Rattle.page_text.specs.Pages.{without_trailing_blanks}
use Rattle.show_page.specs.Counts.{counted}
use Rattle.show_page.specs.Frame.{document_open, header_open, style_open}
use Rattle.show_page.specs.declared.head.RunCounts.{RunCounts}

-- the literal that a line of the chart puts on a heading line, without the blanks at its end
abbrev pub heading_words : Statement → List ℕ
heading_words (says.Head line wheel literal) = without_trailing_blanks literal
heading_words other = []

-- words, and others where there are none
abbrev pub words_or : List ℕ → List ℕ → List ℕ
words_or [] others = others
words_or (first ∷ rest) others = first ∷ rest

-- the heading of a chart: the first literal of its heading lines that has more than blanks; nothing where there is none
abbrev pub heading_of : List Line → List ℕ
heading_of [] = []
heading_of (line ∷ others) = words_or (heading_words line.statement) (heading_of others)

-- a title that says how many cards the report is of
unfoldable pub plain_open : List ℕ
plain_open = codes "A report of "

unfoldable pub plain_title : (cards : ℕ) → List ℕ
plain_title cards = plain_open ++ counted cards (codes "card")

-- the title: the heading, else that
abbrev pub title_of : List ℕ → (cards : ℕ) → List ℕ
title_of [] cards = plain_title cards
title_of (first ∷ others) cards = escaped (first ∷ others)

-- how many cards were read, how many lines were printed, and how many wires the panel has
unfoldable pub read_words : List ℕ
read_words = codes "</h1>\n<p class=\"counts\">The machine read "

unfoldable pub printed_words : List ℕ
printed_words = codes " and printed "

unfoldable pub run_words : (cards lines : ℕ) → List ℕ
run_words cards lines = read_words ++ counted cards (codes "card") ++ printed_words ++ counted lines (codes "line")

unfoldable pub program_open : List ℕ
program_open = codes ". It had no program: "

unfoldable pub panel_words : List ℕ
panel_words = codes " on a panel decided what it did"

unfoldable pub wired_words : (wires : ℕ) → List ℕ
wired_words wires = program_open ++ counted wires (codes "wire") ++ panel_words

-- of a panel without wires
unfoldable pub bare_words : List ℕ
bare_words = codes ". It had no program, and its panel had no wires"

abbrev pub what_decided : (wires : ℕ) → List ℕ
what_decided wires = if wires == 0 then bare_words else wired_words wires

unfoldable pub program_close : List ℕ
program_close = codes ". Choose anything on this page that is printed, punched or wired.</p>\n"

unfoldable pub program_words : (wires : ℕ) → List ℕ
program_words wires = what_decided wires ++ program_close

unfoldable pub counts_words : RunCounts → List ℕ
counts_words counts = run_words counts.cards counts.lines ++ program_words counts.wires

-- the head of the document, and the title on the page with these counts
unfoldable pub head_text : (style heading : List ℕ) → RunCounts → List ℕ
head_text style heading counts =
    document_open ++ title_of heading counts.cards ++ style_open ++ style ++ header_open ++ title_of heading counts.cards
    ++ counts_words counts
