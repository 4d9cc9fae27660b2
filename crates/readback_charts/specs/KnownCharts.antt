-- The chart that is known of a panel by what is read off it.
use Rattle.std.specs.Prelude.{◌≡◌, ℕ, IfNone, IfSome, List, Option, Some, None, string_bytes}
use Rattle.compile407.specs.Compilation.{Compilation}
use Rattle.match_panels.specs.MatchingWords.Answers.{plan_told}
use Rattle.readback_charts.specs.PanelChart.{IsWiredChart}
use Rattle.readback_charts.specs.declared.answer.PanelChart.{PanelChart}
use Rattle.readback_panels.specs.Lines.{IsFramed}
use Rattle.chart_plans.specs.PlansWords.Plans.{Lists}
use Rattle.hubs.specs.SetupsWords.Wiring.{Wiring}

-- a chart with its text, and a plan of it
pub record KnownChart : Type 0 where
  pub text : List ℕ
  pub compiled : Compilation
  pub plan : Lists

-- what is known by the chart that is found of a panel, if one is
abbrev pub known_by : PanelChart → KnownChart
known_by panel = record { text = string_bytes panel.text; compiled = panel.compiled; plan = plan_told panel.matching }

abbrev pub known_in : Option PanelChart → Option KnownChart
known_in None = None
known_in (Some panel) = Some (known_by panel)

-- the chart is that of the text, and the panel is wired for it by its plan
pub record IsOfText (setup : Wiring) (text : List ℕ) (chart : KnownChart) : Type 0 where
  pub its_text : chart.text ≡ text
  pub wired : IsWiredChart setup text chart.compiled chart.plan

-- One text of version 2 is read off the panel, whatever it says. If it is a chart for which the panel is wired, that one is known, with a plan
-- by which it is; and none is known only if the panel is wired for this text by no plan.
pub record IsReadOff (setup : Wiring) (known : Option KnownChart) : Type 0 where
  pub text : List ℕ
  pub framed : IsFramed text
  pub wired : IfSome known (IsOfText setup text)
  pub unwired : IfNone known ((compiled : Compilation) (plan : Lists) → ¬ IsWiredChart setup text compiled plan)

-- a text is the one that is read off the panel, if the panel is wired for that one
pub record IsReadFirst (setup : Wiring) (text : List ℕ) : Type 0 where
  pub known : Option KnownChart
  pub read : IsReadOff setup known
  pub first : IfSome known (λ chart. chart.text ≡ text)
