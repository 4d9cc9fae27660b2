-- All that a chart asks of the machine.
use Rattle.std.specs.Prelude.{ℕ, List}
use Rattle.chart_lines.specs.declared.charts.chart.Line.{Line}
use Rattle.chart_lines.specs.declared.charts.level.ControlLevel.{ControlLevel}
use Rattle.chart_lines.specs.declared.charts.level.ControlLevel.TheVariants as control
use Rattle.chart_plans.specs.declared.wanted.total.Total.{Total}
use Rattle.chart_plans.specs.declared.wanted.position.Position.{Position}
use Rattle.chart_plans.specs.WantedWords.ChartTotals.{totals_of}
use Rattle.chart_plans.specs.WantedWords.Pilots.{pilots_of}
use Rattle.chart_plans.specs.WantedWords.Positions.{comparing_of, indicate_of}
use Rattle.chart_plans.specs.WantedWords.Units.{storage_of, wide_texts_of, splits_of}

-- What the parts of the machine other than the counter groups serve, each list in the order in which a chart asks for it; the
-- indicate positions by level.
pub record Parts : Type 0 where
  pub pilots : List (List ℕ)
  pub comparing : List Position
  pub storage : List ℕ
  pub splits : List ℕ
  pub minor : List Position
  pub intermediate : List Position
  pub major : List Position

-- the indicate positions of a level
abbrev pub indicate_at : Parts → ControlLevel → List Position
indicate_at parts control.Minor = parts.minor
indicate_at parts control.Intermediate = parts.intermediate
indicate_at parts control.Major = parts.major

-- what these parts serve for a chart
abbrev pub parts_of : List Line → Parts
parts_of lines =
    record {
      pilots = pilots_of lines;
      comparing = comparing_of lines;
      storage = storage_of lines;
      splits = splits_of lines;
      minor = indicate_of control.Minor lines;
      intermediate = indicate_of control.Intermediate lines;
      major = indicate_of control.Major lines;
    }

-- the totals, in the order of their lines, the lines of the total texts that are too wide, and what the other parts serve
pub record Wanted : Type 0 where
  pub totals : List Total
  pub wide_texts : List ℕ
  pub parts : Parts

-- what a chart asks for
abbrev pub wanted_of : List Line → Wanted
wanted_of lines = record { totals = totals_of lines; wide_texts = wide_texts_of lines; parts = parts_of lines }
