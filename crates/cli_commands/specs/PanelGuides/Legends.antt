-- The legend of a planning chart, from its bytes, and why there is none.
use Rattle.std.specs.Prelude.{◌≡◌, ◌↔◌, ℕ, List, Option}
use Rattle.std.specs.Io.KnownBytes.{Appends}
use Rattle.cli_commands.specs.CommandsWords.Answers.{CompilesAs}
use Rattle.cli_commands.specs.CommandsWords.Refusals.{RefusesChart}
use Rattle.compile407.specs.Compilation.{Compilation}
use Rattle.fault_lines.specs.FaultsWords.Status.{status_of}
use Rattle.fault_lines.specs.declared.faults.fault.Fault.{Fault}
use Rattle.fault_lines.specs.declared.faults.fault.Fault.TheVariants as fault
use Rattle.wiring_legend.specs.Laws.{IsOfLines}
use Rattle.wiring_legend.specs.Legend.{IsLegend}
use Rattle.wire_chart.specs.WrittenText.{JoinsGroups}
use Rattle.wiring_text.specs.declared.statement.Version.{Version}
use Rattle.wiring_text.specs.declared.statement.Version.TheVariants.{Second}

-- the legend of a compiled chart, in the version in which `wire` prints the chart's setup: the second where it joins groups, else the first
pub record IsSpelledLegend (compiled : Compilation) (text answer : List ℕ) : Type 0 where
  pub version : Version
  pub second : (version ≡ Second) ↔ JoinsGroups compiled.setup
  pub legend : IsLegend version compiled.chart.lines compiled.plan text answer

-- The legend of a text that is a chart which compiles: under each line of it stands what this line asks for on the panel, as the wiring
-- chart of the panel spells it. All lines together ask for exactly the wires, jacks and stops of the setup that is wired for the chart.
pub record IsLegendOf (text answer : List ℕ) : Type 0 where
  pub compiled : Compilation
  pub compiles : CompilesAs text compiled
  pub legend : IsSpelledLegend compiled text answer
  pub whole : IsOfLines compiled.chart.lines compiled.plan compiled.setup

-- the legend was written after what was there
pub record PrintsLegend (text : List ℕ) (old new : Option (List ℕ)) : Type 0 where
  pub answer : List ℕ
  pub is_legend : IsLegendOf text answer
  pub written : Appends old new answer

-- Why no legend was printed: the chart is refused, and nothing was printed; or the output can't be written, or memory ran out.
pub data StopsLegend (text : List ℕ) (told : Fault) (Unprinted : Type 0) : Type 0 where
  refused : status_of told ≡ 3 → RefusesChart text told → Unprinted → StopsLegend text told Unprinted
  unwritten : told ≡ fault.Write → StopsLegend text told Unprinted
  memory_wanting : told ≡ fault.Memory → StopsLegend text told Unprinted
