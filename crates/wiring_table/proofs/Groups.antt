-- Each total of a chart has a counter of its plan, enough for it, and no two totals have a group of one.
use Rattle.std.proofs.Common.{◌≡◌, ◌∙◌, refl, sym, ap, subst, ℕ, ◌-◌, ◌<◌, ◌≤◌, ◌==◌, nat_le, Bool, true, false, List, Option, Some, None, option_map, option_and_then, position, slice_get, get_or, inl, inr, arith}
use Rattle.std.proofs.lemmas.Bool.Decides.{nat_tests}
use Rattle.std.proofs.lemmas.Option.{slice_get_within, slice_get-get_or, same_Some}
use Rattle.chart_plans.specs.Below.capacity.Capacities.{HasGroup, standard}
use Rattle.chart_plans.specs.Below.capacity.declared.group.CounterGroup.{CounterGroup}
use Rattle.chart_plans.specs.Below.chart_lines.ChartsWords.Chart.{NumbersRise}
use Rattle.chart_plans.specs.Below.chart_lines.declared.charts.chart.Line.{Line}
use Rattle.chart_plans.specs.Below.chart_lines.declared.charts.statement.Statement.{Statement}
use Rattle.chart_plans.specs.Below.chart_lines.declared.charts.statement.Statement.TheVariants as says
use Rattle.chart_plans.proofs.Below.chart_lines.ChartsWords.Listed.{given-by, listed-at, listed-given, position-passing, position-stands}
use Rattle.chart_plans.proofs.Below.chart_lines.ChartsWords.Rising.{one-line}
use Rattle.report_definition.proofs.Below.chart_line_rules.FieldRules.Places.{is_same_name-equal}
use Rattle.report_definition.specs.Below.chart_line_rules.FieldRules.Fields.{field_named}
use Rattle.hubs.specs.declared.hub.Group.{Group}
use Rattle.chart_plans.specs.PlansWords.Counters.{HasCounter, IsEnoughFor, IsGroupOf, SharesGroup, single_group}
use Rattle.chart_plans.specs.PlansWords.Plans.{Lists, ServesChart}
use Rattle.chart_plans.specs.declared.plans.counter.TotalCounter.{TotalCounter}
use Rattle.chart_plans.specs.declared.plans.counter.TotalCounter.TheVariants as of
use Rattle.chart_plans.specs.WantedWords.ChartTotals.{need_of, line_total, totals_of}
use Rattle.chart_plans.specs.declared.wanted.total.Total.{Total}
use Rattle.wiring_table.specs.Parts.{HasPanelGroup, HasTotal, ServesPosition, ServesTotal, StandsAt, counter_for, group_for, panel_group, top_for, top_group}

-- The total of a line, by its number, and its counter.
pub record IsServed (lines : List Line) (plan : Lists) (number : ℕ) (counter : TotalCounter) : Type 0 where
  pub place : ℕ
  pub total : Total
  pub is_total : slice_get (totals_of lines) place ≡ Some total
  pub line : total.line ≡ number
  pub there : slice_get plan.counters place ≡ Some counter

pub is-served : (lines : List Line) (plan : Lists) (number : ℕ) (counter : TotalCounter) → counter_for lines plan number ≡ Some counter
    → IsServed lines plan number counter
is-served lines plan number counter served = by (position (λ (t : Total). t.line == number) (totals_of lines)) refl served
  where
    by : (o : Option ℕ) → position (λ (t : Total). t.line == number) (totals_of lines) ≡ o
        → option_and_then (slice_get plan.counters) o ≡ Some counter → IsServed lines plan number counter
    by None is same = cc
    by (Some place) is same =
        let stands = position-stands (λ (t : Total). t.line == number) (totals_of lines) place is in
        let passes = stands.passes in
        record {
          place = place;
          total = stands.element;
          is_total = stands.there;
          line = grind (arith, nat_tests, passes);
          there = same;
        }

-- a counter with only one group, by that group
pub record IsSingle (lines : List Line) (plan : Lists) (number : ℕ) (group : Group) : Type 0 where
  pub own : CounterGroup
  pub there : counter_for lines plan number ≡ Some (of.Single own)
  pub is_group : panel_group own ≡ group

pub is-single : (lines : List Line) (plan : Lists) (number : ℕ) (group : Group) → group_for lines plan number ≡ Some group
    → IsSingle lines plan number group
is-single lines plan number group served = by (counter_for lines plan number) refl served
  where
    by : (o : Option TotalCounter) → counter_for lines plan number ≡ o → option_map panel_group (option_and_then single_group o) ≡ Some group
        → IsSingle lines plan number group
    by None is same = cc
    by (Some (of.Coupled lower upper)) is same = cc
    by (Some (of.Single own)) is same = record { own = own; there = is; is_group = same_Some (panel_group own) group same }

-- the only group of a counter serves the total
pub single-serves : (lines : List Line) (plan : Lists) (number : ℕ) (group : Group) → group_for lines plan number ≡ Some group
    → ServesTotal lines plan number group
single-serves lines plan number group served =
    let single = is-single lines plan number group served in
    record { counter = of.Single single.own; there = single.there; has = single.is_group }

-- a group that serves a position of a total serves the total
pub position-serves : (lines : List Line) (plan : Lists) (number position : ℕ) (group : Group) (place : ℕ)
    → ServesPosition lines plan number position group place → ServesTotal lines plan number group
position-serves lines plan number position group place serves =
    record { counter = serves.counter; there = serves.there; has = by serves.counter serves.at.at }
  where
    by : (counter : TotalCounter) → StandsAt counter position group place → HasPanelGroup counter group
    by (of.Single own) stands = stands.0
    by (of.Coupled lower upper) (inl stands) = inl stands.0
    by (of.Coupled lower upper) (inr stands) = inr stands.0

-- the group with the balance of a total serves it
pub top-serves : (lines : List Line) (plan : Lists) (number : ℕ) (top : Group) → top_for lines plan number ≡ Some top
    → ServesTotal lines plan number top
top-serves lines plan number top is = by (counter_for lines plan number) refl is
  where
    by : (o : Option TotalCounter) → counter_for lines plan number ≡ o → option_map top_group o ≡ Some top → ServesTotal lines plan number top
    by None there same = cc
    by (Some (of.Single own)) there same = record { counter = of.Single own; there = there; has = same_Some (panel_group own) top same }
    by (Some (of.Coupled lower upper)) there same =
        record { counter = of.Coupled lower upper; there = there; has = inr (same_Some (panel_group upper) top same) }

-- a group of the plan by its group of the panel
same-group : (own its : CounterGroup) (group : Group) → panel_group own ≡ group → panel_group its ≡ group → own ≡ its
same-group own its group one other =
    ap (λ (g : Group). record { width = g.width; number = g.number }) (one ∙ sym other)

in-counter : (counter : TotalCounter) (its : CounterGroup) (group : Group) → HasPanelGroup counter group → panel_group its ≡ group
    → IsGroupOf counter its
in-counter (of.Single own) its group has is = same-group own its group has is
in-counter (of.Coupled lower upper) its group (inl has) is = inl (same-group lower its group has is)
in-counter (of.Coupled lower upper) its group (inr has) is = inr (same-group upper its group has is)

-- counters that both have a group share one
shared : (one other : TotalCounter) (group : Group) → HasPanelGroup one group → HasPanelGroup other group → SharesGroup one other
shared one (of.Single its) group has its_has = in-counter one its group has its_has
shared one (of.Coupled lower upper) group has (inl its_has) = inl (in-counter one lower group has its_has)
shared one (of.Coupled lower upper) group has (inr its_has) = inr (in-counter one upper group has its_has)

-- each total has a counter
pub counter-given : (lines : List Line) (plan : Lists) (name : List ℕ) (level number : ℕ) → ServesChart lines plan
    → HasTotal lines name level number → (counter : TotalCounter) × (counter_for lines plan number ≡ Some counter)
counter-given lines plan name level number planned total =
    let made : Total = record { level = total.asked.level; line = total.line.number; need = need_of (field_named lines total.asked.name) total.asked.digits } in
    let listed = listed-given (λ (l : Line). line_total lines l.number l.statement) lines total.line made total.listed
    (ap (line_total lines total.line.number) total.says_total) in
    let same = total.is_number in
    let (place, at) = position-passing (λ (t : Total). t.line == number) (totals_of lines) made listed (grind (arith, nat_tests, same)) in
    let stands = position-stands (λ (t : Total). t.line == number) (totals_of lines) place at in
    let within = slice_get_within (totals_of lines) place stands.element stands.there in
    let no_counter : TotalCounter = of.Single (record { width = 0; number = 0 }) in
    let counter = get_or plan.counters place no_counter in
    let there : slice_get plan.counters place ≡ Some counter =
    slice_get-get_or plan.counters place no_counter (omega (arith, within, planned.counters.many)) in
    (counter, ap (option_and_then (slice_get plan.counters)) at ∙ there)

module _ (lines : List Line) (plan : Lists) (planned : ServesChart lines plan) where
  -- one counter group serves one line
  pub serves-own : (one other : ℕ) (group : Group) → ServesTotal lines plan one group → ServesTotal lines plan other group → one ≡ other
  serves-own one other group serves serves_too =
      let a = is-served lines plan one serves.counter serves.there in
      let b = is-served lines plan other serves_too.counter serves_too.there in
      let same_place : a.place ≡ b.place =
      planned.counters.own a.place b.place serves.counter serves_too.counter a.there b.there
      (shared serves.counter serves_too.counter group serves.has serves_too.has) in
      let same_total : Some a.total ≡ Some b.total =
      sym a.is_total ∙ ap (slice_get (totals_of lines)) same_place ∙ b.is_total in
      let total : a.total ≡ b.total = cc in
      sym a.line ∙ ap (λ (t : Total). t.line) total ∙ b.line

  -- it is one of the standard machine
  pub serves-there : (number : ℕ) (group : Group) → ServesTotal lines plan number group
      → HasGroup standard (record { width = group.width; number = group.number })
  serves-there number group serves =
      let a = is-served lines plan number serves.counter serves.there in
      by serves.counter serves.has (planned.counters.there a.place serves.counter a.there)
    where
      moved : (own : CounterGroup) → panel_group own ≡ group → HasGroup standard own
          → HasGroup standard (record { width = group.width; number = group.number })
      moved own is there = subst (λ (g : Group). HasGroup standard (record { width = g.width; number = g.number })) is there

      by : (counter : TotalCounter) → HasPanelGroup counter group → HasCounter standard counter
          → HasGroup standard (record { width = group.width; number = group.number })
      by (of.Single own) has there = moved own has there
      by (of.Coupled lower upper) (inl has) there = moved lower has there.0
      by (of.Coupled lower upper) (inr has) there = moved upper has there.1

  -- the counter of a total is enough for it
  pub counter-enough : (end : ℕ) (name : List ℕ) (level number : ℕ) (counter : TotalCounter) → NumbersRise lines end
      → (total : HasTotal lines name level number) → counter_for lines plan number ≡ Some counter
      → IsEnoughFor (need_of (field_named lines name) total.asked.digits) counter
  counter-enough end name level number counter rise total there =
      let a = is-served lines plan number counter there in
      let from = given-by (λ (l : Line). line_total lines l.number l.statement) lines a.total
      (listed-at (totals_of lines) a.place a.total a.is_total) in
      let its_number : from.element.number ≡ total.line.number =
      numbered from.element.number from.element.statement a.total from.gives ∙ a.line ∙ sym total.is_number in
      let line = one-line lines end from.element total.line rise from.listed total.listed its_number in
      let made = need-made total.line.number a.total
      (sym (ap (line_total lines total.line.number) total.says_total) ∙ ap (λ (l : Line). line_total lines l.number l.statement) (sym line)
      ∙ from.gives) in
      let need : need_of (field_named lines name) total.asked.digits ≡ a.total.need =
      ap (λ n. need_of (field_named lines n) total.asked.digits) (sym (is_same_name-equal total.asked.name name total.same_name)) ∙ made in
      subst (λ n. IsEnoughFor n counter) (sym need) (planned.counters.enough a.place a.total counter a.is_total a.there)
    where
      numbered : (its : ℕ) (statement : Statement) (found : Total) → line_total lines its statement ≡ Some found → its ≡ found.line
      numbered its (says.TotalAmount total) found is = cc
      numbered its other found is = cc

      need-made : (its : ℕ) (found : Total)
          → Some (record { level = total.asked.level; line = its; need = need_of (field_named lines total.asked.name) total.asked.digits }) ≡ Some found
          → need_of (field_named lines total.asked.name) total.asked.digits ≡ found.need
      need-made its found is = cc

  -- the two groups of a counter differ
  pub pair-apart : (number : ℕ) (lower upper : CounterGroup) → counter_for lines plan number ≡ Some (of.Coupled lower upper)
      → panel_group lower ≡ panel_group upper → ⊥
  pair-apart number lower upper there same =
      let a = is-served lines plan number (of.Coupled lower upper) there in
      let enough = planned.counters.enough a.place a.total (of.Coupled lower upper) a.is_total a.there in
      let numbers : lower.number ≡ upper.number = ap (λ (g : Group). g.number) same in
      let order = enough.order in
      omega (arith, numbers, order)

  -- so a place of a group serves one position
  pub position-own : (number position other : ℕ) (group : Group) (place : ℕ) → ServesPosition lines plan number position group place
      → ServesPosition lines plan number other group place → position ≡ other
  position-own number position other group place one and_other =
      by one.counter one.there one.at.at
      (subst (λ c. StandsAt c other group place) (same_Some and_other.counter one.counter (sym and_other.there ∙ one.there)) and_other.at.at)
    where
      by : (counter : TotalCounter) → counter_for lines plan number ≡ Some counter → StandsAt counter position group place
          → StandsAt counter other group place → position ≡ other
      by (of.Single own) there stands stands_too = stands.1 ∙ sym stands_too.1
      by (of.Coupled lower upper) there (inl stands) (inl stands_too) = stands.1 ∙ sym stands_too.1
      by (of.Coupled lower upper) there (inr stands) (inr stands_too) = stands.1 ∙ sym stands_too.1
      by (of.Coupled lower upper) there (inl stands) (inr stands_too) =
          absurd (pair-apart number lower upper there (stands.0 ∙ sym stands_too.0))
      by (of.Coupled lower upper) there (inr stands) (inl stands_too) =
          absurd (pair-apart number lower upper there (stands_too.0 ∙ sym stands.0))

  -- and each position of a total has a place
  pub position-given : (end : ℕ) (name : List ℕ) (level number : ℕ) (counter : TotalCounter) → NumbersRise lines end
      → (total : HasTotal lines name level number) → counter_for lines plan number ≡ Some counter
      → (position : ℕ) → 1 ≤ position → position ≤ total.asked.digits
      → (group : Group) × (place : ℕ) × ServesPosition lines plan number position group place
  position-given end name level number counter rise total there position from to =
      by counter there (counter-enough end name level number counter rise total there)
    where
      within : (width : ℕ) → need_of (field_named lines name) total.asked.digits ≤ width → position ≤ width
      within width enough = omega (arith, enough, to)

      by : (counter : TotalCounter) → counter_for lines plan number ≡ Some counter
          → IsEnoughFor (need_of (field_named lines name) total.asked.digits) counter
          → (group : Group) × (place : ℕ) × ServesPosition lines plan number position group place
      by (of.Single own) there enough = (
        panel_group own,
        position,
        record {
          counter = of.Single own;
          there = there;
          at = record { from = from; to = within own.width enough; at = (refl, refl) };
        },
      )
      by (of.Coupled lower upper) there enough = split (nat_le position lower.width) refl
        where
          most : position ≤ 16
          most = within 16 enough.to

          split : (b : Bool) → nat_le position lower.width ≡ b
              → (group : Group) × (place : ℕ) × ServesPosition lines plan number position group place
          split true low = (
            panel_group lower,
            position,
            record {
              counter = of.Coupled lower upper;
              there = there;
              at = record { from = from; to = grind (arith, nat_tests, low); at = inl (refl, refl) };
            },
          )
          split false high =
              let more : lower.width < position = grind (arith, nat_tests, high) in
              let last = most in
              let lower_width = enough.lower_width in
              let upper_width = enough.upper_width in (
                panel_group upper,
                position - lower.width,
                record {
                  counter = of.Coupled lower upper;
                  there = there;
                  at = record {
                    from = omega (arith, more);
                    to = omega (arith, more, last, lower_width, upper_width);
                    at = inr (refl, omega (arith, more));
                  };
                },
              )
