-- The counters of the totals of a chart.
use Rattle.std.proofs.Common.{◌≡◌, ℕ, ◌≤◌, inl, inr, List, Some, refl, arith}
use Rattle.std.proofs.lemmas.Bool.Decides.{nat_tests}
use Rattle.chart_plans.specs.Below.capacity.Capacities.{HasGroup, standard}
use Rattle.chart_lines.specs.ChartsWords.Chart.{NumbersRise}
use Rattle.chart_lines.specs.declared.charts.chart.Line.{Line}
use Rattle.chart_rules.specs.Below.chart_line_rules.FieldRules.Fields.{field_named}
use Rattle.hubs.specs.declared.hub.Group.{Group}
use Rattle.chart_plans.proofs.PlansWords.CounterGroups.{width-cases}
use Rattle.chart_plans.specs.PlansWords.Counters.{IsEnoughFor}
use Rattle.chart_plans.specs.PlansWords.Plans.{Lists, ServesChart}
use Rattle.chart_plans.specs.declared.plans.counter.TotalCounter.{TotalCounter}
use Rattle.chart_plans.specs.declared.plans.counter.TotalCounter.TheVariants as of
use Rattle.wiring_totals.specs.HelperCounters.{IsCounterOnPanel, IsOnPanel, positions_of}
use Rattle.wiring_totals.specs.HelperLevels.{HasCounterFor}
use Rattle.chart_plans.specs.WantedWords.ChartTotals.{need_of}
use Rattle.wiring_lines.proofs.Below.wiring_table.Groups.{counter-enough, counter-given, serves-there}
use Rattle.wiring_lines.specs.Below.wiring_table.Parts.{HasTotal, counter_for, panel_group}

on-panel : (group : Group) → HasGroup standard (record { width = group.width; number = group.number }) → IsOnPanel group
on-panel group has =
    let from = has.from in
    let to = has.to in
    record {
      width = elim (width-cases standard (record { width = group.width; number = group.number }) has) [
        | inl e ↦ grind (arith, nat_tests, e)
        | inr rest ↦ elim rest [
          | inl e ↦ grind (arith, nat_tests, e)
          | inr more ↦ elim more [ inl e ↦ grind (arith, nat_tests, e) | inr e ↦ grind (arith, nat_tests, e) ]
        ]
      ];
      from = from;
      to = grind (arith, nat_tests, to);
    }

-- the groups of a counter that is enough for a total of the chart are on the panel
counter-on_panel : (lines : List Line) (plan : Lists) (number need : ℕ) (counter : TotalCounter) → ServesChart lines plan
    → counter_for lines plan number ≡ Some counter → IsEnoughFor need counter → IsCounterOnPanel counter
counter-on_panel lines plan number need (of.Single own) is_for there enough =
    on-panel (panel_group own)
    (serves-there lines plan is_for number (panel_group own) (record { counter = of.Single own; there = there; has = refl }))
counter-on_panel lines plan number need (of.Coupled lower upper) is_for there enough = record {
  lower_there = on-panel (panel_group lower)
      (serves-there lines plan is_for number (panel_group lower)
      (record { counter = of.Coupled lower upper; there = there; has = inl refl }));
  upper_there = on-panel (panel_group upper)
      (serves-there lines plan is_for number (panel_group upper)
      (record { counter = of.Coupled lower upper; there = there; has = inr refl }));
  lower_width = enough.lower_width;
  upper_width = enough.upper_width;
}

-- and they have as many positions as it needs
enough-positions : (need : ℕ) (counter : TotalCounter) → IsEnoughFor need counter → need ≤ positions_of counter
enough-positions need (of.Single own) enough = enough
enough-positions need (of.Coupled lower upper) enough =
    let most = enough.to in
    let lower_width = enough.lower_width in
    let upper_width = enough.upper_width in
    omega (arith, most, lower_width, upper_width)

-- the total on a line of a chart has a counter of its plan, with at least its digits
pub counter-for : (lines : List Line) (plan : Lists) (end : ℕ) → NumbersRise lines end → ServesChart lines plan
    → (name : List ℕ) (level number : ℕ) (total : HasTotal lines name level number) → HasCounterFor lines plan number total.asked.digits
counter-for lines plan end rise is_for name level number total =
    let (counter, there) = counter-given lines plan name level number is_for total in
    let need = need_of (field_named lines name) total.asked.digits in
    let enough = counter-enough lines plan is_for end name level number counter rise total there in
    let room = enough-positions need counter enough in
    record {
      counter = counter;
      there = there;
      on_panel = counter-on_panel lines plan number need counter is_for there enough;
      wide = omega (arith, room);
    }
