-- Plans of a chart that take parts in order.
use Rattle.std.proofs.Common.{◌≡◌, ◌∙◌, sym, ap, subst, List}
use Rattle.chart_lines.specs.declared.charts.chart.Line.{Line}
use Rattle.chart_plans.proofs.PlansWords.Numbers.{in-order}
use Rattle.match_plans.specs.Renumbered.{TakesShown, with_numbers}
use Rattle.match_plans.specs.NamingWires.{ShowsPartsOf}
use Rattle.match_plans.specs.Wired.{IsWiredBy}
use Rattle.chart_plans.specs.PlansWords.PartNumbers.{AreInOrder, AreNumbersOf, PartNumbers}
use Rattle.chart_plans.specs.PlansWords.Renumbered.{renumbered}
use Rattle.chart_plans.specs.declared.plans.part_numbers.PartKind.TheVariants as kind
use Rattle.chart_lines.specs.declared.charts.level.ControlLevel.TheVariants as control
use Rattle.hubs.specs.SetupsWords.Wiring.{Wiring}
use Rattle.chart_plans.specs.PlansWords.Plans.{IsWithinMachine, Lists, ServesChart}

-- a plan with the counters and the parts of another, and with numbers of its own
pub planned-with : (lines : List Line) {own plan : Lists} → ServesChart lines own → plan.counters ≡ own.counters → plan.parts ≡ own.parts
    → AreNumbersOf plan.parts plan.numbers → ServesChart lines plan
planned-with lines planned counters parts numbers = record {
  counters = rw counters planned.counters;
  parts = parts ∙ planned.parts;
  numbers = numbers;
  pilots = planned.pilots;
  comparing = planned.comparing;
  storage_width = planned.storage_width;
  storage_units = planned.storage_units;
  splits = planned.splits;
  minor = planned.minor;
  intermediate = planned.intermediate;
  major = planned.major;
}

-- one whose other parts are in order
pub planned-again : (lines : List Line) (own plan : Lists) → ServesChart lines own → IsWithinMachine own.parts → plan.counters ≡ own.counters
    → plan.parts ≡ own.parts → AreInOrder own.parts plan.numbers → ServesChart lines plan
planned-again lines own plan planned within counters parts numbers =
    planned-with lines planned counters parts (rw parts (in-order own.parts plan.numbers within numbers))

-- numbers of which each kind is shown, one after the other
module _ {lines : List Line} {setup : Wiring} {none units splits minor intermediate major positions all : PartNumbers} where
  pub all-shown : ((other : Wiring) (its : Lists) → ShowsPartsOf lines setup other its → TakesShown lines setup kind.Storage none units)
      → ((other : Wiring) (its : Lists) → ShowsPartsOf lines setup other its → TakesShown lines setup kind.Split units splits)
      → ((other : Wiring) (its : Lists) → ShowsPartsOf lines setup other its → TakesShown lines setup (kind.Indicate control.Minor) splits minor)
      → ((other : Wiring) (its : Lists) → ShowsPartsOf lines setup other its → TakesShown lines setup (kind.Indicate control.Intermediate) minor intermediate)
      → ((other : Wiring) (its : Lists) → ShowsPartsOf lines setup other its → TakesShown lines setup (kind.Indicate control.Major) intermediate major)
      → ((other : Wiring) (its : Lists) → ShowsPartsOf lines setup other its → TakesShown lines setup kind.Comparing major positions)
      → ((other : Wiring) (its : Lists) → ShowsPartsOf lines setup other its → TakesShown lines setup kind.Pilot positions all)
      → (other : Wiring) (its : Lists) → ShowsPartsOf lines setup other its → IsWiredBy lines other (with_numbers its all)
  all-shown u s m i j p l other its shows =
      let first = u other its shows in
      let second = s other its shows in
      let third = m other its shows in
      let fourth = i other its shows in
      let fifth = j other its shows in
      let sixth = p other its shows in
      let last = l other its shows in
      let same : all
      ≡ record {
        pilots = last.numbers;
        comparing = sixth.numbers;
        storage = first.numbers;
        splits = second.numbers;
        minor = third.numbers;
        intermediate = fourth.numbers;
        major = fifth.numbers;
      }
      =
      last.is_new
      ∙ ap (λ n. renumbered n kind.Pilot last.numbers) (sixth.is_new
      ∙ ap (λ n. renumbered n kind.Comparing sixth.numbers) (fifth.is_new
      ∙ ap (λ n. renumbered n (kind.Indicate control.Major) fifth.numbers) (fourth.is_new
      ∙ ap (λ n. renumbered n (kind.Indicate control.Intermediate) fourth.numbers) (third.is_new
      ∙ ap (λ n. renumbered n (kind.Indicate control.Minor) third.numbers) (second.is_new
      ∙ ap (λ n. renumbered n kind.Split second.numbers) first.is_new))))) in
      subst (λ n. IsWiredBy lines other (with_numbers its n)) (sym same)
      (last.are other _ (on (sixth.are other _ (on (fifth.are other _ (on (fourth.are other _ (on (third.are other _ (on (second.are other _ (on
      (first.are other its shows)))))))))))))
    where
      on : {plan : Lists} → IsWiredBy lines other plan → ShowsPartsOf lines setup other plan
      on wired = record { wired = wired; alike = shows.alike }

-- a plan with the counters and the parts of one by which a setup is wired, and with numbers that go with these
pub plan-wired : (lines : List Line) (setup : Wiring) (its plan : Lists) → IsWiredBy lines setup its → plan.counters ≡ its.counters
    → plan.parts ≡ its.parts → IsWiredBy lines setup (with_numbers its plan.numbers) → IsWiredBy lines setup plan
plan-wired lines setup its plan wired counters parts shown =
    let same : with_numbers its plan.numbers ≡ plan = λ i. record { counters = sym counters i; parts = sym parts i; numbers = plan.numbers } in
    subst (IsWiredBy lines setup) same shown
