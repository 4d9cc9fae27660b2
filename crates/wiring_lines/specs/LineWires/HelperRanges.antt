-- A helper of the code: the ranges of what a chart's lines say.
use Rattle.std.specs.Prelude.{ℕ, ◌+◌, ◌≤◌, length, Option, Some, None}
use Rattle.chart_lines.specs.declared.charts.statement.After.{After}
use Rattle.chart_lines.specs.declared.charts.statement.After.TheVariants as action
use Rattle.chart_lines.specs.declared.charts.statement.Mark.{Mark}
use Rattle.wiring_table.specs.Figures.{mark_text}

-- a channel that a line skips to is one of the carriage
abbrev pub HasChannel : After → Type 0
HasChannel action.Page = Unit {0}
HasChannel (action.Skip channel) = (1 ≤ channel) × (channel ≤ 12)

-- a mark stands on wheels of the machine from a wheel on
abbrev pub HasWheelsForMark : (wheel : ℕ) → Option Mark → Type 0
HasWheelsForMark wheel None = Unit {0}
HasWheelsForMark wheel (Some mark) = (1 ≤ wheel) × (wheel + length (mark_text mark) ≤ 121)
