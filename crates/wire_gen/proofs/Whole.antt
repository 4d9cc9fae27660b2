-- A setup with the tape, the jacks and the wires of a chart is wired for it.
use Rattle.std.proofs.Common.{◌≡◌, ◌↔◌, inl, inr, false, true≢false, List, sym, ◌∙◌, subst}
use Rattle.chart_plans.specs.PlansWords.Plans.{Lists}
use Rattle.chart_lines.specs.declared.charts.chart.Line.{Line}
use Rattle.hubs.specs.SetupsWords.Tapes.{CarriageTape}
use Rattle.hubs.specs.SetupsWords.Wiring.{Wiring, HasJack, HasWire, is_plugged}
use Rattle.hubs.specs.declared.hub.Hub.{Hub}
use Rattle.hubs.specs.declared.jack.Jack.{Jack}
use Rattle.wiring_lines.specs.LineWires.HelperAdds.{Adds}
use Rattle.wiring_lines.specs.JacksAndTape.HelperJacks.{Plugs}
use Rattle.wiring_lines.specs.Below.wiring_table.Jacks.{ChartJack}
use Rattle.wiring_lines.specs.Below.wiring_table.Wires.{ChartWire}
use Rattle.wiring_lines.specs.Below.wiring_table.WiredFor.{IsTapeOf, WiredFor}

-- What is plugged and wired on a setup that has nothing is all that it has then.
pub all-there : {jacks_of : Jack → Type 0} {wires_of : Hub → Hub → Type 0} {bare plugged wired : Wiring}
    → ((exit entry : Hub) → ¬ HasWire bare exit entry) → ((jack : Jack) → is_plugged bare jack ≡ false)
    → Plugs jacks_of bare plugged → Adds wires_of plugged wired
    → ((exit entry : Hub) → HasWire wired exit entry ↔ wires_of exit entry) × ((jack : Jack) → HasJack wired jack ↔ jacks_of jack)
all-there no_wires no_jacks plugs adds = (
  λ exit entry. (
    λ has. elim ((adds.wires exit entry).0 has) [
      | inl before ↦ absurd (no_wires exit entry ((plugs.wires exit entry).0 before))
      | inr wire ↦ wire
    ],
    λ wire. (adds.wires exit entry).1 (inr wire),
  ),
  λ jack. (
    λ has. elim ((plugs.jacks jack).0 (sym (adds.jacks jack) ∙ has)) [
      | inl before ↦ absurd (true≢false (sym before ∙ no_jacks jack))
      | inr due ↦ due
    ],
    λ due. adds.jacks jack ∙ (plugs.jacks jack).1 (inr due),
  ),
)

pub whole : (lines : List Line) (plan : Lists) (tape : CarriageTape) (bare plugged wired : Wiring) → IsTapeOf lines tape
    → ((exit entry : Hub) → ¬ HasWire bare exit entry) → ((jack : Jack) → is_plugged bare jack ≡ false) → bare.tape ≡ tape
    → Plugs (ChartJack lines) bare plugged → Adds (ChartWire lines plan) plugged wired → WiredFor lines plan wired
whole lines plan tape bare plugged wired is_tape no_wires no_jacks same plugs adds =
    let there = all-there no_wires no_jacks plugs adds in
    record {
      wires = there.0;
      jacks = there.1;
      tape = subst (IsTapeOf lines) (sym (adds.tape ∙ plugs.tape ∙ same)) is_tape;
    }
