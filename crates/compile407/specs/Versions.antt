-- A chart of version 1, and the chart of version 2 of the same lines that bears the word COUPLED exactly where a total takes two
-- counter groups.
use Rattle.std.specs.Prelude.{◌≡◌, ◌↔◌, ℕ, List}
use Rattle.chart_text.specs.Below.chart_lines.declared.charts.chart.Line.{Line}
use Rattle.chart_rules.specs.Versions.{in_first, in_second, AreCoupled}
use Rattle.chart_plans.specs.PlansWords.Plans.{Lists}
use Rattle.report_misfits.specs.Below.report_definition.Report.{Report}
use Rattle.hubs.specs.SetupsWords.Wiring.{Wiring}
use Rattle.compile407.specs.Compilation.{IsCompiled}
use Rattle.compile407.specs.Runnable.{IsRunnable}

-- they have the same plans and the same setups
abbrev pub VersionsCompileAlike : Type 0
VersionsCompileAlike =
    (lines : List Line) (coupled : List ℕ) (end : ℕ) (plan : Lists) (setup : Wiring) → AreCoupled lines coupled →
    IsCompiled (record { chart = in_first lines end; plan = plan; setup = setup })
    ↔ IsCompiled (record { chart = in_second lines coupled end; plan = plan; setup = setup })

-- the same decks can be run
abbrev pub VersionsRunAlike : Type 0
VersionsRunAlike =
    (lines : List Line) (coupled : List ℕ) (end : ℕ) (cards : List (List ℕ)) →
    IsRunnable (in_first lines end) cards ↔ IsRunnable (in_second lines coupled end) cards

-- and their reports of a deck are the same
abbrev pub VersionsReportAlike : Type 0
VersionsReportAlike =
    (lines : List Line) (coupled : List ℕ) (end : ℕ) (cards : List (List ℕ)) →
    Report (in_first lines end) cards ≡ Report (in_second lines coupled end) cards
