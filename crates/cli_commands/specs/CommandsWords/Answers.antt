-- What each command answers, from the bytes of its texts to the bytes that it prints.
use Rattle.std.specs.Prelude.{◌≡◌, ◌↔◌, ℕ, List, codes}
use Rattle.card_code.specs.Deck.{Deck}
use Rattle.fault_lines.specs.Below.chart_text.ChartText.{Reads}
use Rattle.compile407.specs.Compilation.{Compilation, IsCompiled}
use Rattle.compile407.specs.Runnable.{IsRunnable}
use Rattle.machine.specs.Runs.{MachineLines}
use Rattle.page_text.specs.Pages.{Pages}
use Rattle.page_text.specs.declared.placed_lines.placed_line.PlacedLine.{PlacedLine}
use Rattle.report_definition.specs.Report.{Report}
use Rattle.hubs.specs.SetupsWords.Wiring.{Wiring}
use Rattle.wire_chart.specs.WrittenText.{IsWritten, IsWrittenIn}
use Rattle.wiring_text.specs.WiringText.{ReadsAs}
use Rattle.wiring_text.specs.declared.statement.Version.TheVariants.{Second}
use Rattle.fault_lines.specs.declared.program_io.command.Command.{Command}
use Rattle.fault_lines.specs.declared.program_io.command.Command.TheVariants as command

-- the text reads as the chart of this compilation
pub record CompilesAs (text : List ℕ) (compiled : Compilation) : Type 0 where
  pub read : Reads text compiled.chart
  pub wired : IsCompiled compiled

-- the text is a wiring chart
abbrev pub HasWiring : List ℕ → Type 0
HasWiring text = (wiring : Wiring) × ReadsAs text wiring

-- the text is a chart that compiles
abbrev pub Compiles : List ℕ → Type 0
Compiles text = (compiled : Compilation) × CompilesAs text compiled

-- the wiring chart of a chart: the text of the setup that it compiles to
pub record IsWiringChartOf (text answer : List ℕ) : Type 0 where
  pub compiled : Compilation
  pub compiles : CompilesAs text compiled
  pub written : IsWritten compiled.setup answer

-- the pages of a chart and a deck: the chart compiles, the deck is one that it can be run with, and the pages are the report
pub record ArePagesOf (text deck answer : List ℕ) : Type 0 where
  pub compiled : Compilation
  pub compiles : CompilesAs text compiled
  pub cards : List (List ℕ)
  pub punched : Deck deck cards
  pub runnable : IsRunnable compiled.chart cards
  pub reported : answer ≡ Report compiled.chart cards

-- the pages of a deck on a panel: those of the lines that the machine prints, wired as this setup
pub record ArePagesOn (wiring : Wiring) (deck answer : List ℕ) : Type 0 where
  pub cards : List (List ℕ)
  pub punched : Deck deck cards
  pub lines : List PlacedLine
  pub run : MachineLines wiring cards lines
  pub printed : answer ≡ Pages lines wiring.tape.lines

-- the pages of a wiring chart and a deck: those of the deck on a panel that is wired as the wiring chart reads
pub record AreReplayedPages (text deck answer : List ℕ) : Type 0 where
  pub wiring : Wiring
  pub reads : ReadsAs text wiring
  pub pages : ArePagesOn wiring deck answer

-- the wiring chart of a wiring chart in version 2: the text of the setup that it reads as
pub record IsUpgradeOf (text answer : List ℕ) : Type 0 where
  pub wiring : Wiring
  pub reads : ReadsAs text wiring
  pub written : IsWrittenIn Second wiring answer

-- two wiring charts have the same pages, for every deck
abbrev pub PrintAlike : List ℕ → List ℕ → Type 0
PrintAlike one other = (deck pages : List ℕ) → AreReplayedPages one deck pages ↔ AreReplayedPages other deck pages

-- what a command answers on a text and a deck
abbrev pub Answers : Command → List ℕ → List ℕ → List ℕ → Type 0
Answers command.Check text deck answer = Compiles text × (answer ≡ codes "ok\n")
Answers command.Wire text deck answer = IsWiringChartOf text answer
Answers command.Run text deck answer = ArePagesOf text deck answer
Answers command.Replay text deck answer = AreReplayedPages text deck answer
Answers command.Upgrade text deck answer = IsUpgradeOf text answer × PrintAlike text answer
