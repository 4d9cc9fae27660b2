-- A panel that is wired for a chart, and the ways of impulses in it.
use Rattle.std.specs.Prelude.{◌≡◌, Bool, true, List, Some}
use Rattle.wiring_table.specs.Below.chart_plans.PlansWords.Plans.{Lists, ServesChart}
use Rattle.wiring_table.specs.Below.chart_rules.Rules.{IsLawful}
use Rattle.wiring_table.specs.Below.chart_lines.ChartsWords.Chart.{Chart}
use Rattle.wiring_table.specs.Below.chart_lines.declared.charts.chart.Line.{Line}
use Rattle.wiring_table.specs.Below.hubs.SetupsWords.Wiring.{Wiring}
use Rattle.proof_cycles.specs.Below.hubs.declared.hub.Hub.{Hub}
use Rattle.proof_cycles.specs.Below.net.Panel.{contact_of}
use Rattle.wiring_table.specs.Wires.{ChartWire}
use Rattle.wiring_table.specs.WiredFor.{WiredFor}

-- A setup is wired for a chart that breaks no rule, by a plan of it.
pub record IsPanel (chart : Chart) (plan : Lists) (wiring : Wiring) : Type 0 where
  pub lawful : IsLawful chart
  pub planned : ServesChart chart.lines plan
  pub wired : WiredFor chart.lines plan wiring

-- The ways of an impulse to an entry: straight from an emitting exit, or from one through one closed contact.
pub data Arrives (lines : List Line) (plan : Lists) (exits closed : Hub → Bool) : Hub → Type 0 where
  straight : (exit entry : Hub) → exits exit ≡ true → ChartWire lines plan exit entry → Arrives lines plan exits closed entry
  through :
      (exit common contact entry : Hub) → exits exit ≡ true → ChartWire lines plan exit common
      → contact_of contact ≡ Some common → closed contact ≡ true → ChartWire lines plan contact entry
      → Arrives lines plan exits closed entry
