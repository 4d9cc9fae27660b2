-- What an answer tells of a setup beside a chart: that the setup is wired for the chart by a plan of it, or what the chart asks for by a
-- plan and the setup has not, and what the setup has and the chart does not ask for.
use Rattle.std.specs.Prelude.{◌≡◌, ◌↔◌, ℕ, List, Contains, true, false}
use Rattle.chart_lines.specs.declared.charts.chart.Line.{Line}
use Rattle.hubs.specs.declared.hub.Hub.{Hub}
use Rattle.hubs.specs.declared.jack.Jack.{Jack}
use Rattle.match_panels.specs.declared.matching.answer.Matching.{Matching}
use Rattle.match_panels.specs.declared.matching.answer.Matching.TheVariants.{Differs, Matched}
use Rattle.match_plans.specs.Wired.{IsWiredBy}
use Rattle.chart_plans.specs.PlansWords.Plans.{Lists, ServesChart}
use Rattle.report_definition.specs.ChartForm.{form_of, stops_of}
use Rattle.hubs.specs.SetupsWords.Tapes.{has_stop}
use Rattle.hubs.specs.SetupsWords.Wiring.{HasJack, HasWire, Wiring}
use Rattle.wiring_table.specs.Jacks.{ChartJack}
use Rattle.wiring_table.specs.WiredFor.{WiredFor}
use Rattle.wiring_table.specs.Wires.{ChartWire}

-- Exactly what a chart asks for by a plan and a setup has not: wires, jacks and stops, on the form of the chart.
pub record IsMissing (lines : List Line) (plan : Lists) (setup missing : Wiring) : Type 0 where
  pub wires : (exit entry : Hub) → HasWire missing exit entry ↔ (ChartWire lines plan exit entry × ¬ HasWire setup exit entry)
  pub jacks : (jack : Jack) → HasJack missing jack ↔ (ChartJack lines jack × ¬ HasJack setup jack)
  pub stops :
      (channel line : ℕ) → (has_stop missing.tape channel line ≡ true)
      ↔ (Contains (stops_of lines channel) line × (has_stop setup.tape channel line ≡ false))
  pub form_lines : missing.tape.lines ≡ (form_of lines).lines
  pub first : missing.tape.first ≡ (form_of lines).first
  pub overflow : missing.tape.overflow ≡ (form_of lines).overflow

-- Exactly what a setup has and a chart does not ask for by a plan, on the form of the setup.
pub record IsExtra (lines : List Line) (plan : Lists) (setup extra : Wiring) : Type 0 where
  pub wires : (exit entry : Hub) → HasWire extra exit entry ↔ (HasWire setup exit entry × ¬ ChartWire lines plan exit entry)
  pub jacks : (jack : Jack) → HasJack extra jack ↔ (HasJack setup jack × ¬ ChartJack lines jack)
  pub stops :
      (channel line : ℕ) → (has_stop extra.tape channel line ≡ true)
      ↔ ((has_stop setup.tape channel line ≡ true) × ¬ Contains (stops_of lines channel) line)
  pub form_lines : extra.tape.lines ≡ setup.tape.lines
  pub first : extra.tape.first ≡ setup.tape.first
  pub overflow : extra.tape.overflow ≡ setup.tape.overflow

-- a plan of a chart by which a setup is not wired for it, and the differences
pub record DiffersBy (lines : List Line) (setup : Wiring) (plan : Lists) (missing extra : Wiring) : Type 0 where
  pub planned : ServesChart lines plan
  pub unwired : ¬ WiredFor lines plan setup
  pub is_missing : IsMissing lines plan setup missing
  pub is_extra : IsExtra lines plan setup extra

-- what an answer tells
abbrev pub IsMatchingOf : List Line → Wiring → Matching → Type 0
IsMatchingOf lines setup (Matched plan) = IsWiredBy lines setup plan
IsMatchingOf lines setup (Differs plan missing extra) = DiffersBy lines setup plan missing extra

-- the plan that an answer tells
abbrev pub plan_told : Matching → Lists
plan_told (Matched plan) = plan
plan_told (Differs plan missing extra) = plan

-- an answer tells that the setup is wired for the chart
abbrev pub IsMatched : Matching → Type 0
IsMatched (Matched plan) = Unit {0}
IsMatched (Differs plan missing extra) = ⊥
