-- A row of a cycle, with all that it hangs on.
use Rattle.std.specs.Prelude.{ℕ, Bool}
use Rattle.wiring_table.specs.Below.chart_plans.PlansWords.Plans.{Lists}
use Rattle.proof_cycles.specs.Below.card_code.declared.row.Row.{Row as CardRow}
use Rattle.wiring_table.specs.Below.chart_lines.ChartsWords.Chart.{Chart}
use Rattle.proof_cycles.specs.Below.hubs.declared.hub.Hub.{Hub}
use Rattle.proof_cycles.specs.Below.machine.Machine.{MachineState, closes}
use Rattle.proof_cycles.specs.Below.net.declared.cycle.Cycle.{Cycle}
use Rattle.proof_cycles.specs.Below.net.declared.cycle.Point.{Point}
use Rattle.proof_cycles.specs.Below.net.declared.cycle.Point.TheVariants.{Row}
use Rattle.proof_cycles.specs.Below.stations.Punches.{is_punched_at}

-- A row of a cycle: a chart and its plan, the machine before the cycle, the cycle with the pictures of its points, and the
-- row.
pub record CycleRow : Type 0 where
  pub chart : Chart
  pub plan : Lists
  pub old : MachineState
  pub pictures : Point → Hub → Bool
  pub cycle : Cycle
  pub row : CardRow

-- whether the card at second reading has the row in a column
abbrev pub reads : CycleRow → ℕ → Bool
reads at column = is_punched_at at.old.stations.second at.row column

-- whether a contact is closed at the row
abbrev pub is_closed : CycleRow → Hub → Bool
is_closed at hub = closes at.old at.cycle (Row at.row) hub
