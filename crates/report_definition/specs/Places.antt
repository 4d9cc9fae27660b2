-- The places of lines. Spacing comes before a line, a skip or a page turn after it. A line starts a page where the line before it, with
-- its skip, came to the overflow line or past it, where it asked for a page, or where its skip had no further stop on the form. The
-- first body line of a page stands below the last heading line, or below the form's first line where there is none.
use Rattle.std.specs.Prelude.{ℕ, ◌+◌, ◌-◌, List, [], ◌∷◌, ◌++◌, Option, Some, None, map, max, nat_le, nat_lt, if◌then◌else◌}
use Rattle.std.specs.List.{find, range_with_len}
use Rattle.page_text.specs.declared.placed_lines.placed_line.PlacedLine.{PlacedLine}
use Rattle.chart_lines.specs.declared.charts.chart.Line.{Line}
use Rattle.chart_lines.specs.declared.charts.statement.After.{After}
use Rattle.chart_lines.specs.declared.charts.statement.After.TheVariants as action
use Rattle.report_definition.specs.BodyLines.{heading_line}
use Rattle.report_definition.specs.ChartForm.{form_of, heading_count, spacing_of, after_of, stops_of}

-- A body line: its kind, 0 for the line of a card and the level for a total line, and its characters.
pub record BodyText : Type 0 where
  pub kind : ℕ
  pub text : List ℕ

-- Where a line and its skip left the form: the page, and the line there; no line where the next line starts a page.
pub record Left : Type 0 where
  pub page : ℕ
  pub line : Option ℕ

-- before all lines: the first line starts page 1
abbrev pub before_all : Left
before_all = record { page = 0; line = None }

-- the line from which a page's first body line is spaced: the last heading line, or the form's first line
abbrev pub top_line : List Line → ℕ
top_line lines = (form_of lines).first + max (heading_count lines) 1 - 1

-- the page of the next line
abbrev pub page_of : Left → ℕ
page_of left = elim left.line [ None ↦ left.page + 1 | Some line ↦ left.page ]

-- the line on which a line of a kind stands
abbrev pub line_below : List Line → Option ℕ → ℕ → ℕ
line_below lines None kind = top_line lines + spacing_of lines kind
line_below lines (Some line) kind = line + spacing_of lines kind

-- the next stop of a channel below a line, if the form has one
abbrev pub next_stop : List Line → ℕ → ℕ → Option ℕ
next_stop lines channel line = find (λ stop. nat_lt line stop) (stops_of lines channel)

-- where what follows a line on a given line leaves the form; no line where the next line starts a page
abbrev pub after_action : List Line → Option After → ℕ → Option ℕ
after_action lines None line = Some line
after_action lines (Some action.Page) line = None
after_action lines (Some (action.Skip channel)) line = next_stop lines channel line

-- the overflow line, or a line past it, leaves none: the next line starts a page
abbrev pub above_overflow : ℕ → Option ℕ → Option ℕ
above_overflow overflow None = None
above_overflow overflow (Some line) = if nat_le overflow line then None else Some line

-- where a line of a kind leaves the form
abbrev pub left_by : List Line → Left → ℕ → Left
left_by lines left kind = record {
  page = page_of left;
  line = above_overflow (form_of lines).overflow (after_action lines (after_of lines kind) (line_below lines left.line kind));
}

-- the heading line with a number on a page
abbrev pub heading_on : List Line → ℕ → ℕ → PlacedLine
heading_on lines page number =
    record { page = page; line = (form_of lines).first + number - 1; text = heading_line lines number }

-- the heading lines before a line that starts a page
abbrev pub headed : List Line → Left → List PlacedLine
headed lines left =
    elim left.line [ None ↦ map (heading_on lines (left.page + 1)) (range_with_len 1 (heading_count lines)) | Some line ↦ [] ]

-- body lines with their places and the heading lines between them, from where the line before them left the form
abbrev pub placed : List Line → Left → List BodyText → List PlacedLine
placed lines left [] = []
placed lines left (body ∷ others) =
    headed lines left
    ++ (record { page = page_of left; line = line_below lines left.line body.kind; text = body.text }
    ∷ placed lines (left_by lines left body.kind) others)
