-- What is printed and told of a panel that is read back.
use Rattle.std.specs.Prelude.{◌≡◌, ℕ, List, Option, Some, None}
use Rattle.std.specs.Io.KnownBytes.{Appends}
use Rattle.cli_commands.specs.CommandsWords.Answers.{CompilesAs}
use Rattle.compile407.specs.Compilation.{Compilation}
use Rattle.fault_lines.specs.declared.faults.fault.Fault.{Fault}
use Rattle.fault_lines.specs.declared.faults.fault.Fault.TheVariants as fault
use Rattle.cli_matching.specs.MatchTexts.Counts.{CountsDifferences}
use Rattle.cli_matching.specs.Unmatched.{unmatched_status}
use Rattle.cli_matching.specs.declared.match_texts.counts.Counts.{Counts}
use Rattle.cli_matching.specs.declared.unmatched.Unmatched.{Unmatched}
use Rattle.cli_matching.specs.declared.unmatched.Unmatched.TheVariants as why
use Rattle.match_panels.specs.MatchingWords.Answers.{DiffersBy}
use Rattle.readback_charts.specs.KnownCharts.{IsReadFirst}
use Rattle.match_plans.specs.NamingWires.{ShowsPartsOf}
use Rattle.match_plans.specs.Wired.{IsWiredBy}
use Rattle.chart_plans.specs.PlansWords.Plans.{Lists}
use Rattle.fault_lines.specs.ProgramIo.Refusals.{RefusesWiring}
use Rattle.hubs.specs.SetupsWords.Wiring.{Wiring}
use Rattle.report_runs.specs.PrintPromises.Promises.{BeginsReport, PrintsReport}
use Rattle.wire_chart.specs.Below.wiring_text.WiringText.{ReadsAs}

-- The panel is wired for the chart by a plan. So the machine prints the chart's report of every deck that can be run, wired as this panel, and
-- begins the report where not all totals fit.
pub record IsWiredFor (compiled : Compilation) (setup : Wiring) : Type 0 where
  pub plan : Lists
  pub wired : IsWiredBy compiled.chart.lines setup plan
  pub prints : PrintsReport compiled.chart setup
  pub begins : BeginsReport compiled.chart setup

-- The panel is wired for the chart by no plan. By some plan these are what is missing and what is extra, and so much is counted of both. If the
-- panel shows the parts of another one that is wired for the chart, that one is wired for it by this plan.
pub record IsUnwiredFor (counts : Counts) (compiled : Compilation) (setup : Wiring) : Type 0 where
  pub unwired : (plan : Lists) → ¬ IsWiredBy compiled.chart.lines setup plan
  pub plan : Lists
  pub missing : Wiring
  pub extra : Wiring
  pub differs : DiffersBy compiled.chart.lines setup plan missing extra
  pub shown : (other : Wiring) (its : Lists) → ShowsPartsOf compiled.chart.lines setup other its
      → IsWiredBy compiled.chart.lines other plan
  pub counted : CountsDifferences missing extra counts

-- the panel beside the chart, by the counts that are told
abbrev pub IsBeside : Option Counts → Compilation → Wiring → Type 0
IsBeside None compiled setup = IsWiredFor compiled setup
IsBeside (Some counts) compiled setup = IsUnwiredFor counts compiled setup

-- The text of a chart, and how the panel of a wiring chart stands beside it. If the panel is wired for what is read off it at once, it is that
-- text, by which a wheel is explained too.
pub record IsChartOf (wiring : List ℕ) (counts : Option Counts) (text : List ℕ) : Type 0 where
  pub setup : Wiring
  pub reads : ReadsAs wiring setup
  pub first : IsReadFirst setup text
  pub compiled : Compilation
  pub compiles : CompilesAs text compiled
  pub beside : IsBeside counts compiled setup

-- such a text was written after what was there
pub record PrintsChart (wiring : List ℕ) (counts : Option Counts) (old new : Option (List ℕ)) : Type 0 where
  pub text : List ℕ
  pub right : IsChartOf wiring counts text
  pub written : Appends old new text

-- What is told of a panel that is wired for no chart: it is not wired for the chart that was printed; or the wiring chart is refused, and
-- nothing was printed.
pub data LeavesUnread (wiring : List ℕ) (told : Unmatched) (old new : Option (List ℕ)) (Unprinted : Type 0) : Type 0 where
  unwired : (counts : Counts) → told ≡ why.Unwired counts → PrintsChart wiring (Some counts) old new
      → LeavesUnread wiring told old new Unprinted
  refused : (fault : Fault) → told ≡ why.Failed fault → RefusesWiring wiring fault → Unprinted
      → LeavesUnread wiring told old new Unprinted

-- Why the command does not end well: that; or the output can't be written, or memory ran out.
pub data StopsChart (wiring : List ℕ) (told : Unmatched) (old new : Option (List ℕ)) (Unprinted : Type 0) : Type 0 where
  unread : unmatched_status told ≡ 3 → LeavesUnread wiring told old new Unprinted → StopsChart wiring told old new Unprinted
  unwritten : told ≡ why.Failed fault.Write → StopsChart wiring told old new Unprinted
  memory_wanting : told ≡ why.Failed fault.Memory → StopsChart wiring told old new Unprinted
