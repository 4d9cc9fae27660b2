-- Laws of pages: what the lines of a report are made of, and what the bytes of pages are.
use Rattle.std.specs.Prelude.{◌≡◌, ℕ, ◌+◌, ◌*◌, ◌==◌, List, [], ◌∷◌, if◌then◌else◌}
use Rattle.std.specs.List.{All, AllPass}
use Rattle.page_text.specs.declared.placed_lines.placed_line.PlacedLine.{PlacedLine}
use Rattle.chart_lines.specs.ChartsWords.Chart.{Chart}
use Rattle.chart_lines.specs.ChartsWords.Literal.{is_printable}
use Rattle.chart_lines.specs.ChartsWords.Literals.{HaveLiteralTexts}
use Rattle.page_text.specs.Pages.{page_bytes, last_page}
use Rattle.report_definition.specs.ChartForm.{form_of}
use Rattle.report_definition.specs.Report.{Report, report_lines}

-- how often a byte stands among bytes
abbrev pub count_of : ℕ → List ℕ → ℕ
count_of byte [] = 0
count_of byte (first ∷ bytes) = (if first == byte then 1 else 0) + count_of byte bytes

-- the text of a line has neither a line feed nor a form feed
pub record IsOneLine (placed : PlacedLine) : Type 0 where
  pub no_line_feed : count_of 10 placed.text ≡ 0
  pub no_form_feed : count_of 12 placed.text ≡ 0

-- A page of so many lines has as many line feeds, and one form feed.
abbrev pub PagesHaveTheirLines : Type 0
PagesHaveTheirLines =
    (placed : List PlacedLine) (long page : ℕ) → All IsOneLine placed
    → (count_of 10 (page_bytes placed long page) ≡ long) × (count_of 12 (page_bytes placed long page) ≡ 1)

-- the text of a line has print characters and blanks alone
abbrev pub HasPrintCharacters : PlacedLine → Type 0
HasPrintCharacters placed = AllPass is_printable placed.text

-- The lines of a report have print characters and blanks alone, whatever is punched in its cards, where the literals of its chart have.
abbrev pub ReportLinesPrint : Type 0
ReportLinesPrint =
    (chart : Chart) (cards : List (List ℕ)) → HaveLiteralTexts chart.lines → All HasPrintCharacters (report_lines chart cards)

-- So no line of a report has a line feed or a form feed in its text.
abbrev pub ReportLinesAreOneLine : Type 0
ReportLinesAreOneLine =
    (chart : Chart) (cards : List (List ℕ)) → HaveLiteralTexts chart.lines → All IsOneLine (report_lines chart cards)

-- A report has as many form feeds as pages, and for each page as many line feeds as the form has lines.
abbrev pub ReportPagesHaveTheirLines : Type 0
ReportPagesHaveTheirLines =
    (chart : Chart) (cards : List (List ℕ)) → HaveLiteralTexts chart.lines
    → (count_of 10 (Report chart cards) ≡ last_page (report_lines chart cards) * (form_of chart.lines).lines)
    × (count_of 12 (Report chart cards) ≡ last_page (report_lines chart cards))
