-- What a machine does card by card, cycle by cycle, that is wired for a chart: told by what it holds between its cycles, whatever that is.
use Rattle.std.specs.Prelude.{◌≡◌, ℕ, suc, ◌≤◌, List, Option, Some}
use Rattle.carriage.specs.Asked.{nothing_asked}
use Rattle.report_definition.specs.Below.chart_lines.ChartsWords.Chart.{Chart}
use Rattle.report_definition.specs.FollowedDecks.Alike.{AlikeWith}
use Rattle.report_definition.specs.FollowedDecks.CardMisfits.{GroupsFit}
use Rattle.report_definition.specs.FollowedDecks.Runner.{ReadsNext}
use Rattle.report_definition.specs.FollowedDecks.Stands.{Stand, at_first, stand_after}
use Rattle.proof_reports.specs.Below.hubs.SetupsWords.Wiring.{Wiring}
use Rattle.proof_reports.specs.Below.machine.Cycles.{CycleRun}
use Rattle.proof_reports.specs.Below.machine.Machine.{MachineState, machine_at_start}
use Rattle.proof_reports.specs.Below.machine.Runs.{moved_on}
use Rattle.proof_reports.specs.Below.net.Cycles.{level_number}
use Rattle.proof_reports.specs.Below.net.Printing.{printing_of}
use Rattle.proof_reports.specs.Below.net.declared.cycle.Cycle.TheVariants.{Card, Head, Prog, RunIn}
use Rattle.proof_reports.specs.Below.net.declared.cycle.ProgramLevel.{ProgramLevel}
use Rattle.proof_reports.specs.Below.net.declared.cycle.Ordinal.{Ordinal}
use Rattle.proof_reports.specs.Below.net.declared.cycle.Ordinal.TheVariants.{First, Second, Third}
use Rattle.proof_reports.specs.WiredPanels.CycleAsks.LinePlaces.Placing.{IsFormOf, printing_of_chart}
use Rattle.report_definition.specs.Breaks.{ended_after, taking}
use Rattle.proof_reports.specs.PrintedReports.Steps.{GoesOn, Heads, RunsCard, Totals}

-- what heading cycles keep and print
abbrev pub HeadsKeep : Chart → Wiring → (MachineState → Type 0) → Type 0
HeadsKeep chart wiring Content =
    (heading : Ordinal) (old new : MachineState) → Content old → CycleRun wiring (Head heading) old new
    → Content new × Heads chart heading old new

-- What the card cycle does to a machine in which a card waits.
pub record CardGoes (chart : Chart) (wiring : Wiring) (stand : Stand) (card : List ℕ) (next : Option (List ℕ))
    (Waits : MachineState → Type 0) (After : ℕ → MachineState → Type 0) : Type 0 where
  pub heads : HeadsKeep chart wiring Waits
  pub runs :
      (old new : MachineState) → Waits old → old.stations.first ≡ Some card → CycleRun wiring Card (moved_on next old) new
      → After 0 new × RunsCard chart stand card next (moved_on next old) new

-- What the program cycles of the levels do: between the cycles of a level, and after so many levels, the machine holds what is told.
pub record LevelsGo (chart : Chart) (wiring : Wiring) (stand : Stand) (card : List ℕ) (next : Option (List ℕ))
    (After : ℕ → MachineState → Type 0) (Tested Turned : ProgramLevel → MachineState → Type 0) : Type 0 where
  pub first :
      (k : ℕ) (level : ProgramLevel) (old new : MachineState) → level_number level ≡ suc k → suc k ≤ ended_after chart.lines card next
      → After k old → CycleRun wiring (Prog level First) old new
      → Tested level new × GoesOn (Prog level First) nothing_asked old new
  pub second :
      (level : ProgramLevel) (old new : MachineState) → Tested level old → CycleRun wiring (Prog level Second) old new
      → Turned level new × GoesOn (Prog level Second) nothing_asked old new
  pub heads : (level : ProgramLevel) → HeadsKeep chart wiring (Turned level)
  pub third :
      (k : ℕ) (level : ProgramLevel) (old new : MachineState) → level_number level ≡ suc k → suc k ≤ ended_after chart.lines card next
      → Turned level old → CycleRun wiring (Prog level Third) old new
      → After (suc k) new × Totals chart stand card level old new

-- What is given of a card and its groups when it runs.
pub record IsDue (chart : Chart) (Reads : List ℕ → Type 0) (stand : Stand) (card : List ℕ) (next : Option (List ℕ)) : Type 0 where
  pub reads : Reads card
  pub reads_next : ReadsNext Reads next
  pub alike : AlikeWith chart.lines stand.so_far card
  pub fit : GroupsFit chart.lines (ended_after chart.lines card next) (taking card stand.so_far)

-- The cycles of a machine wired for a chart, told by what the machine holds between them.
pub record MachineGoes (chart : Chart) (wiring : Wiring) (Reads : List ℕ → Type 0)
    (Waits : Stand → List ℕ → MachineState → Type 0)
    (After : Stand → List ℕ → Option (List ℕ) → ℕ → MachineState → Type 0)
    (Tested Turned : Stand → List ℕ → Option (List ℕ) → ProgramLevel → MachineState → Type 0) : Type 0 where
  pub printing : printing_of wiring ≡ printing_of_chart chart.lines
  pub form : IsFormOf chart.lines wiring.tape
  pub starts :
      (card : List ℕ) (new : MachineState) → Reads card
      → CycleRun wiring RunIn (moved_on (Some card) (machine_at_start wiring)) new
      → Waits at_first card new × GoesOn RunIn nothing_asked (moved_on (Some card) (machine_at_start wiring)) new
  pub cards :
      (stand : Stand) (card : List ℕ) (next : Option (List ℕ)) → IsDue chart Reads stand card next
      → CardGoes chart wiring stand card next (Waits stand card) (After stand card next)
  pub levels :
      (stand : Stand) (card : List ℕ) (next : Option (List ℕ)) → IsDue chart Reads stand card next
      → LevelsGo chart wiring stand card next (After stand card next) (Tested stand card next) (Turned stand card next)
  pub arrives :
      (stand : Stand) (card next : List ℕ) (machine : MachineState) → IsDue chart Reads stand card (Some next)
      → After stand card (Some next) (ended_after chart.lines card (Some next)) machine
      → Waits (stand_after chart.lines stand card (Some next)) next machine
