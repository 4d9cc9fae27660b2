-- The open totals of a chart between two cards of a deck.
use Rattle.std.specs.Prelude.{◌≡◌, ℕ, List}
use Rattle.chart_lines.specs.declared.charts.chart.Line.{Line}
use Rattle.report_misfits.specs.declared.open_total.OpenTotal.{OpenTotal}
use Rattle.report_misfits.specs.OpenTotals.{open_totals}

-- What is kept between two cards: the open totals, and how many cards were taken.
pub record Sums : Type 0 where
  pub totals : List OpenTotal
  pub cards : ℕ

-- The sums are those of the unfinished groups so far, for all totals of the chart.
abbrev pub AreSumsOf : List Line → (ℕ → List (List ℕ)) → Sums → Type 0
AreSumsOf lines so_far sums = sums.totals ≡ open_totals lines so_far lines
