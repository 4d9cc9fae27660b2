-- The chart that is known of the panel of a text, and what it says of the panel.
use Rattle.std.specs.Prelude.{◌≡◌, ℕ, IfSome, List, [], Option, None, Some, String, false, length, true}
use Rattle.std.specs.declared.alloc.Global.{Global}
use Rattle.cli_commands.specs.CommandsWords.Answers.{CompilesAs}
use Rattle.compile407.specs.Compilation.{Compilation}
use Rattle.wiring_legend.specs.LineSetups.{AreLineSetups}
use Rattle.readback_charts.specs.KnownCharts.{IsReadOff, KnownChart}
use Rattle.cli_commands.specs.PanelGuides.Panels.{IsRunOf, is_wiring_text}
use Rattle.chart_plans.specs.PlansWords.Plans.{ServesChart}
use Rattle.hubs.specs.SetupsWords.Wiring.{Wiring}
use Rattle.explain_wheel_ledgers.specs.Totals.{totals_in}
use Rattle.explain_wheel_ledgers.specs.declared.chart_totals.TitledAccount.{TitledAccount}

-- Which chart is known of a text's panel: of a planning chart this one, by the plan that it compiles to; of a wiring chart the one that is
-- read off the panel, if the panel is wired for it.
pub data IsKnown (text : List ℕ) : Wiring → Option KnownChart → Type 0 where
  by_hand : is_wiring_text text ≡ true → (wiring : Wiring) (known : Option KnownChart) → IsReadOff wiring known → IsKnown text wiring known
  planned :
      is_wiring_text text ≡ false → (compiled : Compilation) → CompilesAs text compiled
      → IsKnown text compiled.setup (Some (record { text = text; compiled = compiled; plan = compiled.plan }))

-- The run of a text and a deck on a panel, over cards, and the chart that is known of the panel.
pub record IsKnownRun (text deck : List ℕ) (wiring : Wiring) (cards : List (List ℕ)) (known : Option KnownChart) : Type 0 where
  pub run : IsRunOf text deck cards wiring
  pub is_known : IsKnown text wiring known

-- Who asks for the wires of a panel: each line of the chart that is known of it, as the chart's text has it; nobody if none is known.
abbrev pub AreAsked : Option KnownChart → List (String Global × Wiring) → Type 0
AreAsked None asked = asked ≡ []
AreAsked (Some chart) asked =
    AreLineSetups chart.compiled.chart.lines chart.plan chart.text (length chart.compiled.chart.lines) asked

-- the totals of the chart that is known of a panel; none if no chart is
abbrev pub totals_known : Option KnownChart → List TitledAccount
totals_known None = []
totals_known (Some chart) = totals_in chart.compiled.chart.lines chart.plan chart.compiled.chart.lines

-- the plan of the chart that is known serves it
abbrev pub IsServed : Option KnownChart → Type 0
IsServed known = IfSome known (λ chart. ServesChart chart.compiled.chart.lines chart.plan)
