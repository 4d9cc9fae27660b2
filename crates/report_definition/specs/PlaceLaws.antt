-- Laws of places: where a line stands by the line before it, and that places rise on the form.
use Rattle.std.specs.Prelude.{◌≡◌, ℕ, ◌+◌, ◌-◌, ◌<◌, ◌≤◌, ◌==◌, true, List, [], ◌∷◌, ◌++◌, Some, None, length, map, if◌then◌else◌}
use Rattle.std.specs.List.{list_any, range_with_len}
use Rattle.card_code.specs.MostCards.{most_cards}
use Rattle.page_text.specs.PlacedLines.InOrder.{IsInOrder}
use Rattle.page_text.specs.declared.placed_lines.placed_line.PlacedLine.{PlacedLine}
use Rattle.chart_lines.specs.ChartsWords.Chart.{Chart}
use Rattle.chart_lines.specs.declared.charts.chart.Line.{Line}
use Rattle.chart_lines.specs.declared.charts.statement.After.TheVariants as action
use Rattle.chart_rules.specs.Rules.{IsLawful}
use Rattle.report_definition.specs.BodyLines.{heading_line}
use Rattle.report_definition.specs.ChartForm.{form_of, heading_count, spacing_of, after_of, stops_of}
use Rattle.report_definition.specs.Places.{BodyText}
use Rattle.report_definition.specs.Report.{body_lines, report_lines}

-- a channel has a stop at a line
abbrev pub IsStop : List Line → ℕ → ℕ → Type 0
IsStop lines channel stop = list_any (λ other. other == stop) (stops_of lines channel) ≡ true

-- The next stop of a channel lies below a line, and no stop of the channel lies between.
pub record IsNextStop (lines : List Line) (channel line stop : ℕ) : Type 0 where
  pub is_stop : IsStop lines channel stop
  pub below : line < stop
  pub first : (other : ℕ) → IsStop lines channel other → line < other → stop ≤ other

-- the form has no stop of a channel below a line
abbrev pub HasNoStopBelow : List Line → ℕ → ℕ → Type 0
HasNoStopBelow lines channel line = (stop : ℕ) → IsStop lines channel stop → stop ≤ line

-- Where a line of a kind comes to with its skip: it stays where nothing follows it, or goes to the next stop.
pub data ComesTo (lines : List Line) (kind line : ℕ) : ℕ → Type 0 where
  stays : after_of lines kind ≡ None → ComesTo lines kind line line
  skips : (channel stop : ℕ) → after_of lines kind ≡ Some (action.Skip channel) → IsNextStop lines channel line stop → ComesTo lines kind line stop

-- A line of a kind ends its page where it comes to the overflow line or past it, where a page turn follows it, and where its skip has no
-- further stop.
pub data EndsPage (lines : List Line) (kind line : ℕ) : Type 0 where
  full : (to : ℕ) → ComesTo lines kind line to → (form_of lines).overflow ≤ to → EndsPage lines kind line
  asked : after_of lines kind ≡ Some action.Page → EndsPage lines kind line
  no_stop : (channel : ℕ) → after_of lines kind ≡ Some (action.Skip channel) → HasNoStopBelow lines channel line → EndsPage lines kind line

-- a body line at its place
abbrev pub standing : BodyText → (page line : ℕ) → PlacedLine
standing body page line = record { page = page; line = line; text = body.text }

-- the heading lines of a page, from the form's first line on
abbrev pub headings_on : List Line → ℕ → List PlacedLine
headings_on lines page =
    map (λ number. record { page = page; line = (form_of lines).first + number - 1; text = heading_line lines number })
    (range_with_len 1 (heading_count lines))

-- the line of the first body line of a page: its spacing below the last heading line, or below the form's first line
abbrev pub first_body_line : List Line → ℕ → ℕ
first_body_line lines kind =
    (if heading_count lines == 0 then (form_of lines).first else (form_of lines).first + heading_count lines - 1) + spacing_of lines kind

-- Body lines stand after a line of a kind on a page and a line: each its spacing below where the line before it comes to, where that is
-- above the overflow line, or first on the next page where the line before it ends its page.
pub data Follow (lines : List Line) : (kind page line : ℕ) → List BodyText → List PlacedLine → Type 0 where
  no_more : (kind page line : ℕ) → Follow lines kind page line [] []
  on_its_page : (kind page line to : ℕ) (body : BodyText) (bodies : List BodyText) (others : List PlacedLine) → ComesTo lines kind line to → to < (form_of lines).overflow → Follow lines body.kind page (to + spacing_of lines body.kind) bodies others → Follow lines kind page line (body ∷ bodies) (standing body page (to + spacing_of lines body.kind) ∷ others)
  on_the_next : (kind page line : ℕ) (body : BodyText) (bodies : List BodyText) (others : List PlacedLine) → EndsPage lines kind line → Follow lines body.kind (page + 1) (first_body_line lines body.kind) bodies others → Follow lines kind page line (body ∷ bodies) (headings_on lines (page + 1) ++ (standing body (page + 1) (first_body_line lines body.kind) ∷ others))

-- Body lines at their places: the first one is the first of page 1, and the others follow.
pub data ArePlaced (lines : List Line) : List BodyText → List PlacedLine → Type 0 where
  nothing : ArePlaced lines [] []
  from_page_1 : (body : BodyText) (bodies : List BodyText) (others : List PlacedLine) → Follow lines body.kind 1 (first_body_line lines body.kind) bodies others → ArePlaced lines (body ∷ bodies) (headings_on lines 1 ++ (standing body 1 (first_body_line lines body.kind) ∷ others))

-- In the report of a lawful chart each line stands by the line before it.
abbrev pub LinesStandByTheLineBefore : Type 0
LinesStandByTheLineBefore =
    (chart : Chart) (cards : List (List ℕ)) → IsLawful chart
    → ArePlaced chart.lines (body_lines chart.lines cards) (report_lines chart cards)

-- In the report of a lawful chart, of at most 999,999 cards, places rise, and stand on the form.
abbrev pub PlacesRise : Type 0
PlacesRise =
    (chart : Chart) (cards : List (List ℕ)) → IsLawful chart → length cards ≤ most_cards
    → IsInOrder (form_of chart.lines).lines (report_lines chart cards)
