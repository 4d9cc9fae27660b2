-- The counter groups that serve the totals of a chart, and those that read out in a cycle.
use Rattle.std.specs.Prelude.{◌≡◌, ℕ, true, List, Some}
use Rattle.wiring_table.specs.Below.chart_plans.PlansWords.Plans.{Lists}
use Rattle.wiring_table.specs.Below.chart_lines.ChartsWords.Chart.{Chart}
use Rattle.wiring_table.specs.Below.chart_lines.declared.charts.chart.Line.{Line}
use Rattle.wiring_table.specs.Below.chart_lines.declared.charts.statement.SignRule.{SignRule}
use Rattle.proof_cycles.specs.Below.hubs.declared.hub.Group.{Group}
use Rattle.proof_cycles.specs.Below.machine.Machine.{MachineState}
use Rattle.proof_cycles.specs.Below.machine.Steady.{balance_latches}
use Rattle.proof_cycles.specs.Below.net.Cycles.{level_number}
use Rattle.proof_cycles.specs.Below.net.declared.cycle.Cycle.{Cycle}
use Rattle.proof_cycles.specs.Below.net.declared.cycle.Cycle.TheVariants.{Prog}
use Rattle.proof_cycles.specs.Below.net.declared.cycle.ProgramLevel.{ProgramLevel}
use Rattle.proof_cycles.specs.Below.net.declared.cycle.Ordinal.TheVariants.{Second, Third}
use Rattle.proof_cycles.specs.Below.selectors.Contacts.{is_balance_set}
use Rattle.wiring_table.specs.Figures.{IsSigned}
use Rattle.wiring_table.specs.Parts.{HasTotal, ServesPosition, ServesTotal, counter_for, top_for}
use Rattle.wiring_table.specs.Below.chart_plans.declared.plans.counter.TotalCounter.{TotalCounter}

-- A counter is that of the total of an amount at a level.
pub record IsCounterOf (lines : List Line) (plan : Lists) (name : List ℕ) (level : ℕ) (counter : TotalCounter) : Type 0 where
  pub number : ℕ
  pub total : HasTotal lines name level number
  pub served : counter_for lines plan number ≡ Some counter

-- A counter group is one of those of the total of an amount at a level.
pub record IsGroupOf (lines : List Line) (plan : Lists) (name : List ℕ) (level : ℕ) (group : Group) : Type 0 where
  pub number : ℕ
  pub total : HasTotal lines name level number
  pub served : ServesTotal lines plan number group

-- A counter group has the balance of the total of an amount at a level.
pub record IsTopOf (lines : List Line) (plan : Lists) (name : List ℕ) (level : ℕ) (top : Group) : Type 0 where
  pub number : ℕ
  pub total : HasTotal lines name level number
  pub served : top_for lines plan number ≡ Some top

-- A place of a counter group serves a position of the total of an amount at a level.
pub record IsPlaceFor (lines : List Line) (plan : Lists) (name : List ℕ) (level position : ℕ) (group : Group) (place : ℕ) : Type 0 where
  pub number : ℕ
  pub total : HasTotal lines name level number
  pub served : ServesPosition lines plan number position group place

-- A counter group serves a total: it is one of those of some total of some amount.
pub record IsServing (lines : List Line) (plan : Lists) (group : Group) : Type 0 where
  pub name : List ℕ
  pub level : ℕ
  pub own : IsGroupOf lines plan name level group

-- In the third program cycle of a level exactly the groups of its totals read out, in the second those of its signed totals whose top
-- group has a set latch, and in the first and in other cycles none.
pub data Reading (chart : Chart) (plan : Lists) (old : MachineState) (group : Group) : Cycle → Type 0 where
  third : (l : ProgramLevel) (name : List ℕ) → IsGroupOf chart.lines plan name (level_number l) group → Reading chart plan old group (Prog l Third)
  second : (l : ProgramLevel) (name : List ℕ) (rule : SignRule) (top : Group)
      → (own : IsGroupOf chart.lines plan name (level_number l) group) → top_for chart.lines plan own.number ≡ Some top
      → IsSigned chart.lines name rule → is_balance_set (balance_latches old.groups) top ≡ true
      → Reading chart plan old group (Prog l Second)
