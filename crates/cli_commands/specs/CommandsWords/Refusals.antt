-- Which fault is told where a command refuses its texts. The faults stand in the order in which a command meets them: a later one is
-- told only where no earlier one is there.
use Rattle.std.specs.Prelude.{◌≡◌, ℕ, List}
use Rattle.card_code.specs.Deck.{Deck}
use Rattle.compile407.specs.ChartFaults.{HasChartFault}
use Rattle.compile407.specs.Compilation.{Compilation}
use Rattle.compile407.specs.RunFaults.{HasRunFault}
use Rattle.fault_lines.specs.declared.faults.chart.ChartFault.{ChartFault}
use Rattle.fault_lines.specs.declared.faults.deck.RunFault.{RunFault}
use Rattle.hubs.specs.SetupsWords.Wiring.{Wiring}
use Rattle.wiring_text.specs.WiringFaults as wiring_faults
use Rattle.wiring_text.specs.WiringText.{ReadsAs}
use Rattle.wiring_text.specs.declared.fault.WiringFault.{WiringFault}
use Rattle.cli_commands.specs.CommandsWords.Answers.{CompilesAs}
use Rattle.fault_lines.specs.FaultsWords.ToldFaults.{chart_told, run_told, wiring_told}
use Rattle.fault_lines.specs.declared.program_io.command.Command.{Command}
use Rattle.fault_lines.specs.declared.program_io.command.Command.TheVariants as command
use Rattle.fault_lines.specs.declared.faults.fault.Fault.{Fault}
use Rattle.fault_lines.specs.ProgramIo.Refusals.{RefusesDeck, RefusesWiring}

-- the fault of a chart's text is told
pub record RefusesChart (text : List ℕ) (told : Fault) : Type 0 where
  pub cause : ChartFault
  pub at_fault : HasChartFault text cause
  pub named : told ≡ chart_told cause

-- of a chart and a deck: the fault of the chart, else that of the deck's text, else that of its cards for this chart
pub data RefusesRun (text deck : List ℕ) (told : Fault) : Type 0 where
  chart : RefusesChart text told → RefusesRun text deck told
  punches : (compiled : Compilation) → CompilesAs text compiled → RefusesDeck deck told → RefusesRun text deck told
  cards : (compiled : Compilation) → CompilesAs text compiled → (cards : List (List ℕ)) → Deck deck cards → (cause : RunFault)
      → HasRunFault compiled.chart cards cause → told ≡ run_told cause → RefusesRun text deck told

-- of a wiring chart and a deck: the fault of the wiring chart, else that of the deck's text
pub data RefusesReplay (text deck : List ℕ) (told : Fault) : Type 0 where
  wires : (cause : WiringFault) → wiring_faults.HasWiringFault text cause → told ≡ wiring_told cause → RefusesReplay text deck told
  punches : (wiring : Wiring) → ReadsAs text wiring → RefusesDeck deck told → RefusesReplay text deck told

-- what a command tells of a text and a deck that it refuses
abbrev pub Refuses : Command → List ℕ → List ℕ → Fault → Type 0
Refuses command.Check text deck told = RefusesChart text told
Refuses command.Wire text deck told = RefusesChart text told
Refuses command.Run text deck told = RefusesRun text deck told
Refuses command.Replay text deck told = RefusesReplay text deck told
Refuses command.Upgrade text deck told = RefusesWiring text told
