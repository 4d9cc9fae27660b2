-- What a machine that is wired for a chart holds between its cycles: the latches of group indication, the pilots, the totals and the stored
-- texts.
use Rattle.std.specs.Prelude.{◌≡◌, ℕ, suc, ◌≤◌, ℤ, List, Option, Some}
use Rattle.proof_cycles.specs.TotalsWords.CounterCycles.Acts.{Held}
use Rattle.proof_reports.specs.Below.chart_plans.PlansWords.Plans.{Lists}
use Rattle.report_definition.specs.Below.chart_lines.ChartsWords.Chart.{Chart}
use Rattle.report_definition.specs.Below.chart_lines.declared.charts.statement.Field.{Field}
use Rattle.report_definition.specs.FollowedDecks.Stands.{Stand}
use Rattle.proof_reports.specs.Below.hubs.SetupsWords.Wiring.{Wiring}
use Rattle.proof_reports.specs.WiredPanels.CycleAsks.ChartAmounts.{amount_of}
use Rattle.proof_reports.specs.WiredPanels.CycleAsks.CounterStates.{state_of}
use Rattle.proof_reports.specs.WiredPanels.PanelCycles.{AreSetTo, PilotsTellSigns, UnitsHold}
use Rattle.proof_reports.specs.Below.machine.Machine.{MachineState}
use Rattle.proof_reports.specs.Below.net.Cycles.{level_number}
use Rattle.proof_reports.specs.Below.net.declared.cycle.Cycle.{Cycle}
use Rattle.proof_reports.specs.Below.net.declared.cycle.Cycle.TheVariants.{RunIn, Card, Prog, Head}
use Rattle.proof_reports.specs.Below.net.declared.cycle.ProgramLevel.{ProgramLevel}
use Rattle.proof_reports.specs.Below.net.declared.cycle.Ordinal.TheVariants.{First}
use Rattle.report_definition.specs.Amounts.{digits_on, is_negated, number_in}
use Rattle.proof_cycles.specs.TotalsWords.Amounts.{Kind, state_after}
use Rattle.proof_cycles.specs.TotalsWords.Amounts.Kind.{Entry, Prog as Ends, Other}
use Rattle.proof_cycles.specs.TotalsWords.Laws.{ready}
use Rattle.proof_cycles.specs.TotalsWords.Standing.{StandsAll}
use Rattle.proof_cycles.specs.WholeCycles.Between.{IsReady}
use Rattle.wiring_table.specs.Figures.{IsAmount}
use Rattle.report_definition.specs.Breaks.{cleared, ended_after, taking}
use Rattle.report_definition.specs.Totals.{total_of}

-- the latches, the pilots and the units of a machine between cycles
pub record Holds (chart : Chart) (plan : Lists) (wiring : Wiring) (latches : ℕ) (signs : Option (List ℕ)) (machine : MachineState) :
    Type 0 where
  pub is_ready : IsReady wiring machine
  pub are_set : AreSetTo machine.indicate latches
  pub pilots : PilotsTellSigns chart.lines plan signs machine.pilots

-- what the totals of an amount hold in a machine
abbrev pub held : Chart → Lists → MachineState → List ℕ → ℕ → Held
held chart plan machine name = state_of machine chart.lines plan name

-- the sums of an amount over groups by their levels
abbrev pub sums_of : Field → (ℕ → List (List ℕ)) → ℕ → ℤ
sums_of field groups level = total_of field (groups level)

-- the storage units hold the texts of a card
abbrev pub Stores : Chart → Lists → List ℕ → MachineState → Type 0
Stores chart plan card machine = UnitsHold chart.lines plan card machine.storage

-- states of the totals stand for the sums over groups by their levels
abbrev pub AllStand : Chart → Lists → (ℕ → List (List ℕ)) → (List ℕ → ℕ → Held) → Type 0
AllStand chart plan groups state =
    (name : List ℕ) (field : Field) → IsAmount chart.lines name field
    → StandsAll (amount_of chart.lines plan name) (sums_of field groups) (state name)

-- A card waits: the totals stand for the unfinished groups.
pub record Waits (chart : Chart) (plan : Lists) (wiring : Wiring) (stand : Stand) (card : List ℕ) (machine : MachineState) :
    Type 0 where
  pub holds : Holds chart plan wiring stand.opens (Some card) machine
  pub totals : AllStand chart plan stand.so_far (held chart plan machine)

-- So many levels have run after the card.
pub record After (chart : Chart) (plan : Lists) (wiring : Wiring) (stand : Stand) (card : List ℕ) (next : Option (List ℕ)) (k : ℕ)
    (machine : MachineState) : Type 0 where
  pub holds : Holds chart plan wiring k next machine
  pub totals : AllStand chart plan (cleared k (taking card stand.so_far)) (held chart plan machine)
  pub stored : Stores chart plan card machine

-- Some cycles of a level have run: the totals have come from what stood for the sums before it.
pub record Within (chart : Chart) (plan : Lists) (wiring : Wiring) (stand : Stand) (card : List ℕ) (next : Option (List ℕ))
    (came : List ℕ → (ℕ → Held) → ℕ → Held) (level : ProgramLevel) (machine : MachineState) : Type 0 where
  pub k : ℕ
  pub is_level : level_number level ≡ suc k
  pub within : suc k ≤ ended_after chart.lines card next
  pub holds : Holds chart plan wiring k next machine
  pub stored : Stores chart plan card machine
  pub before : List ℕ → ℕ → Held
  pub totals : AllStand chart plan (cleared k (taking card stand.so_far)) before
  pub is : (name : List ℕ) (field : Field) → IsAmount chart.lines name field → held chart plan machine name ≡ came name (before name)

-- what the first cycle of a level makes of the totals of an amount, and what the first two make
abbrev pub by_first : Chart → Lists → ProgramLevel → List ℕ → (ℕ → Held) → ℕ → Held
by_first chart plan level name state = state_after (amount_of chart.lines plan name) (Ends (level_number level) First) state

abbrev pub by_second : Chart → Lists → ProgramLevel → List ℕ → (ℕ → Held) → ℕ → Held
by_second chart plan level name state = ready (amount_of chart.lines plan name) (level_number level) state

-- a cycle as the totals of an amount tell it
abbrev pub kind_for : Cycle → List ℕ → Field → Kind
kind_for RunIn card field = Other
kind_for Card card field = Entry (is_negated field.kind card) (number_in (digits_on field card))
kind_for (Prog level ordinal) card field = Ends (level_number level) ordinal
kind_for (Head heading) card field = Other
