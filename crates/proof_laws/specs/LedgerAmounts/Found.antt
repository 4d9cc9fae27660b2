-- The account that is told of a counter group is that of the total which the group serves.
use Rattle.std.specs.Prelude.{◌≡◌, ℕ, true, List, Some}
use Rattle.chart_lines.specs.declared.charts.chart.Line.{Line}
use Rattle.chart_lines.specs.declared.charts.statement.Field.{Field}
use Rattle.explain_ledgers.specs.declared.ledgers.account.Account.{Account}
use Rattle.chart_plans.specs.PlansWords.Plans.{Lists, ServesChart}
use Rattle.chart_plans.specs.declared.plans.counter.TotalCounter.{TotalCounter}
use Rattle.explain_wheel_ledgers.specs.ToldLedgers.{account_told}
use Rattle.explain_wheel_ledgers.specs.Totals.{account_of, find_total, has_place, totals_in}
use Rattle.proof_reports.specs.WiredPanels.Groups.{IsCounterOf}
use Rattle.wiring_table.specs.Figures.{IsAmount}

-- The counter of each total of an amount, by a plan that serves the chart, has an account, and that is the one that is told, by the totals of
-- the chart, of each of its groups.
abbrev pub TotalsAreFound : Type 0
TotalsAreFound =
    (lines : List Line) (plan : Lists) (name : List ℕ) (field : Field) (level : ℕ) (counter : TotalCounter)
    → ServesChart lines plan → IsAmount lines name field → IsCounterOf lines plan name level counter
    → (account : Account)
    × (account_of counter ≡ Some account)
    × ((place : ℕ) → has_place account place ≡ true → account_told (find_total (totals_in lines plan lines) place) place ≡ account)
