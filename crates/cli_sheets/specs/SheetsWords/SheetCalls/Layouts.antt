-- The layout of a planning chart, from its bytes, and why there is none.
use Rattle.std.specs.Prelude.{◌≡◌, ℕ, List, Option}
use Rattle.std.specs.Io.KnownBytes.{Appends}
use Rattle.chart_lines.specs.ChartsWords.Chart.{Chart}
use Rattle.fault_lines.specs.declared.faults.fault.Fault.{Fault}
use Rattle.fault_lines.specs.declared.faults.fault.Fault.TheVariants as fault
use Rattle.cli_sheets.specs.SheetsWords.Layout.{layout}
use Rattle.cli_sheets.specs.SheetsWords.SheetCalls.Charts.{ReadsLawful, RefusesLines}

-- the layout of a text that is a chart which breaks no rule
pub record IsLayoutOf (text answer : List ℕ) : Type 0 where
  pub chart : Chart
  pub reads : ReadsLawful text chart
  pub drawn : answer ≡ layout chart.lines

-- the layout was written after what was there
pub record PrintsLayout (text : List ℕ) (old new : Option (List ℕ)) : Type 0 where
  pub answer : List ℕ
  pub is_layout : IsLayoutOf text answer
  pub written : Appends old new answer

-- Why no layout was printed: the chart is refused, and nothing was printed; or the output can't be written, or memory ran out.
pub data StopsLayout (text : List ℕ) (told : Fault) (Unprinted : Type 0) : Type 0 where
  refused : RefusesLines text told → Unprinted → StopsLayout text told Unprinted
  unwritten : told ≡ fault.Write → StopsLayout text told Unprinted
  memory_wanting : told ≡ fault.Memory → StopsLayout text told Unprinted
