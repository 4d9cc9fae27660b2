use Rattle.std.proofs.Common.{ℕ, ◌≡◌, ◌<◌, Some, get_or}
use Rattle.chart_lines.specs.declared.charts.chart.Line.{Line}
use Rattle.match_plans.specs.PilotWires.{TellsPilot}
use Rattle.match_plans.specs.NamingWires.{ShowsPartsOf}
use Rattle.chart_plans.specs.PlansWords.Plans.{Lists}
use Rattle.hubs.specs.SetupsWords.Wiring.{Wiring}
use Rattle.wiring_table.specs.Parts.{pilot_for}
use Rattle.match_plans.proofs.pilots.is_told.Given as goal

-- no line so far tells the pilot
abbrev pub invariant-loop-line : goal.invariant-loop-line
invariant-loop-line l =
    (k : ℕ) (line : Line) → k < l.line-index → get_or l.line-items k line ≡ line → (other : Wiring) (its : Lists) → ShowsPartsOf l.chart.lines l.setup other its
    → pilot_for its l.amount.field.name ≡ Some l.pilot → TellsPilot l.chart.lines l.amount.field.name line → ⊥
