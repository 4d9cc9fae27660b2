-- What a chart asks of the carriage: its tape, the cycles that print, and what each kind of body line asks for. And where the carriage
-- stands as a report's lines leave the form.
use Rattle.std.specs.Prelude.{◌≡◌, ◌↔◌, ℕ, zero, suc, ◌<◌, ◌≤◌, Bool, true, false, nat_le, List, Contains, Option, Some, None}
use Rattle.carriage.specs.Below.hubs.SetupsWords.Tapes as tapes
use Rattle.carriage.specs.Below.hubs.SetupsWords.Tapes.{has_stop}
use Rattle.carriage.specs.Below.net.Cycles.{level_number}
use Rattle.carriage.specs.Below.net.declared.cycle.Cycle.{Cycle}
use Rattle.carriage.specs.Below.net.declared.cycle.Cycle.TheVariants.{RunIn, Card, Prog, Head}
use Rattle.carriage.specs.Below.net.declared.cycle.Ordinal.TheVariants.{First, Second, Third}
use Rattle.carriage.specs.Below.net.declared.printing.Printing.{Printing}
use Rattle.carriage.specs.Carriage.{CarriageState}
use Rattle.carriage.specs.declared.asked.Asked.{Asked}
use Rattle.carriage.specs.declared.spot.Spot.{Spot}
use Rattle.report_definition.specs.Below.chart_lines.declared.charts.chart.Line.{Line}
use Rattle.report_definition.specs.Below.chart_lines.declared.charts.statement.After.{After}
use Rattle.report_definition.specs.Below.chart_lines.declared.charts.statement.After.TheVariants as action
use Rattle.report_definition.specs.ChartForm.{form_of, heading_count, prints_details, prints_totals, spacing_of, after_of, stops_of}
use Rattle.report_definition.specs.Places.{Left, page_of, top_line}

-- A carriage tape is that of a chart: its lines are those of the chart's form, and channels 2 to 11 have the chart's stops.
pub record IsFormOf (lines : List Line) (form : tapes.CarriageTape) : Type 0 where
  pub length : form.lines ≡ (form_of lines).lines
  pub first : form.first ≡ (form_of lines).first
  pub overflow : form.overflow ≡ (form_of lines).overflow
  pub stops : (channel line : ℕ) → 2 ≤ channel → channel ≤ 11
      → (has_stop form channel line ≡ true) ↔ Contains (stops_of lines channel) line

-- the cycles that print by a chart: card cycles under PRINT DETAIL, the totals of a level with items, and as many heading lines as it has
abbrev pub printing_of_chart : List Line → Printing
printing_of_chart lines = record {
  cards = prints_details lines;
  minor_totals = prints_totals lines 1;
  intermediate_totals = prints_totals lines 2;
  major_totals = prints_totals lines 3;
  final_totals = prints_totals lines 4;
  first_heading = nat_le 1 (heading_count lines);
  second_heading = nat_le 2 (heading_count lines);
  third_heading = nat_le 3 (heading_count lines);
}

-- the kind of body line that a cycle prints, if it is one that can
abbrev pub kind_of : Cycle → Option ℕ
kind_of RunIn = None
kind_of Card = Some 0
kind_of (Prog level First) = None
kind_of (Prog level Second) = None
kind_of (Prog level Third) = Some (level_number level)
kind_of (Head heading) = None

-- whether a chart prints the lines of a kind
abbrev pub prints_kind : List Line → ℕ → Bool
prints_kind lines zero = prints_details lines
prints_kind lines (suc level) = prints_totals lines (suc level)

-- the channel to skip to, where a skip follows a line
abbrev pub channel_of : Option After → Option ℕ
channel_of None = None
channel_of (Some action.Page) = None
channel_of (Some (action.Skip channel)) = Some channel

-- whether a page turn follows a line
abbrev pub turns_page : Option After → Bool
turns_page None = false
turns_page (Some action.Page) = true
turns_page (Some (action.Skip channel)) = false

-- what the carriage is asked for in the cycle that prints a kind of body line: its spacing, its skip and its page turn
abbrev pub asked_of : List Line → ℕ → Asked
asked_of lines kind = record {
  lines = spacing_of lines kind;
  channel = channel_of (after_of lines kind);
  restore = turns_page (after_of lines kind);
}

-- A carriage has the tape and the printing jacks of a chart.
pub record IsCarriageOf (lines : List Line) (carriage : CarriageState) : Type 0 where
  pub form : IsFormOf lines carriage.form
  pub printing : carriage.printing ≡ printing_of_chart lines

-- The line of a carriage between body lines: where the next line starts a page the latch is set, and otherwise it is reset, and the
-- carriage stands on the line that was left, above the overflow line.
abbrev pub IsOnLine : List Line → Option ℕ → Spot → Type 0
IsOnLine lines None spot = spot.latch ≡ true
IsOnLine lines (Some line) spot = (spot.latch ≡ false) × (spot.line ≡ line) × (line < (form_of lines).overflow)

-- The carriage stands where a line of the report left the form.
pub record IsAt (lines : List Line) (left : Left) (spot : Spot) : Type 0 where
  pub page : spot.page ≡ left.page
  pub line : IsOnLine lines left.line spot

-- the line from which the next body line is spaced: the line that was left, or the top line of a page
abbrev pub line_above : List Line → Option ℕ → ℕ
line_above lines None = top_line lines
line_above lines (Some line) = line

-- The carriage stands as the next body line finds it: on that line's page, on the line from which it is spaced, above the overflow
-- line, with the latch reset.
pub record AwaitsBody (lines : List Line) (left : Left) (spot : Spot) : Type 0 where
  pub page : spot.page ≡ page_of left
  pub line : spot.line ≡ line_above lines left.line
  pub above : spot.line < (form_of lines).overflow
  pub latch : spot.latch ≡ false
