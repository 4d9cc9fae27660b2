-- The units of a total of a chart, and the counters that show it.
use Rattle.std.specs.Prelude.{ℕ, List}
use Rattle.chart_lines.specs.ChartsWords.Levels.{level_number}
use Rattle.chart_lines.specs.declared.charts.chart.Line.{Line}
use Rattle.chart_line_rules.specs.FieldRules.Fields.{field_named}
use Rattle.match_plans.specs.Shown.{IsShown}
use Rattle.match_plans.specs.Wired.{TotalOn, units_wheel}
use Rattle.match_plans.specs.declared.total_counters.TotalUnits.{TotalUnits}
use Rattle.chart_plans.specs.declared.plans.counter.TotalCounter.{TotalCounter}
use Rattle.hubs.specs.SetupsWords.Wiring.{Wiring}
use Rattle.chart_plans.specs.WantedWords.ChartTotals.{need_of}

-- how many positions the total on a line needs
abbrev pub its_need : (lines : List Line) (line : Line) → TotalOn lines line → ℕ
its_need lines line total = need_of (field_named lines total.asked.name) total.asked.digits

-- where its units stand, and what it needs
abbrev pub units_of : (lines : List Line) (line : Line) → TotalOn lines line → TotalUnits
units_of lines line total =
    record { level = level_number total.asked.level; wheel = units_wheel lines line total; need = its_need lines line total }

-- a counter shows it
abbrev pub IsShownOn : (lines : List Line) → Wiring → (line : Line) → TotalOn lines line → TotalCounter → Type 0
IsShownOn lines setup line total counter =
    IsShown setup (level_number total.asked.level) (units_wheel lines line total) (its_need lines line total) counter
