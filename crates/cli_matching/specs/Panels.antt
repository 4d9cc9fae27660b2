-- The compiled chart and the panel that two texts give, and which fault is told where they don't.
use Rattle.std.specs.Prelude.{◌≡◌, ℕ, List}
use Rattle.cli_commands.specs.CommandsWords.Answers.{CompilesAs}
use Rattle.cli_commands.specs.CommandsWords.Refusals.{RefusesChart}
use Rattle.compile407.specs.Compilation.{Compilation}
use Rattle.fault_lines.specs.declared.faults.fault.Fault.{Fault}
use Rattle.fault_lines.specs.ProgramIo.Refusals.{RefusesDeck, RefusesWiring}
use Rattle.hubs.specs.SetupsWords.Wiring.{Wiring}
use Rattle.wire_chart.specs.Below.wiring_text.WiringText.{ReadsAs}
use Rattle.wire_chart.specs.Below.wiring_text.declared.statement.Version.{Version}

-- a planning chart compiles as this, and a wiring chart reads in this version as this setup
pub record ArePanels (chart wiring : List ℕ) (compiled : Compilation) (version : Version) (setup : Wiring) : Type 0 where
  pub compiles : CompilesAs chart compiled
  pub reads : ReadsAs wiring setup
  pub in_version : version ≡ reads.chart.reads.version

-- the planning chart compiles, and the wiring chart reads
pub record HasPanels (chart wiring : List ℕ) : Type 0 where
  pub compiled : Compilation
  pub version : Version
  pub setup : Wiring
  pub panels : ArePanels chart wiring compiled version setup

-- the fault of the planning chart, else that of the wiring chart
pub data RefusesPanels (chart wiring : List ℕ) (told : Fault) : Type 0 where
  of_chart : RefusesChart chart told → RefusesPanels chart wiring told
  of_wiring : (compiled : Compilation) → CompilesAs chart compiled → RefusesWiring wiring told → RefusesPanels chart wiring told

-- the fault of one of them, else that of the text of the deck
pub data RefusesAll (chart wiring deck : List ℕ) (told : Fault) : Type 0 where
  of_panels : RefusesPanels chart wiring told → RefusesAll chart wiring deck told
  of_deck : HasPanels chart wiring → RefusesDeck deck told → RefusesAll chart wiring deck told
