-- The carries of counters: by which wires they come, and which counters form rings: those of signed totals.
use Rattle.std.proofs.Common.{◌≡◌, ◌∙◌, refl, sym, ap, subst, ℕ, true, List, Option, Some, None, option_map, option_and_then, inl, inr}
use Rattle.proof_reports.specs.Below.capacity.declared.group.CounterGroup.{CounterGroup}
use Rattle.proof_reports.specs.Below.chart_line_rules.FieldRules.Coupled.{has_sign}
use Rattle.proof_reports.specs.Below.chart_plans.PlansWords.Counters.{single_group}
use Rattle.proof_reports.specs.Below.chart_plans.PlansWords.Plans.{Lists}
use Rattle.proof_reports.specs.Below.chart_plans.declared.plans.counter.TotalCounter.{TotalCounter}
use Rattle.proof_reports.specs.Below.chart_plans.declared.plans.counter.TotalCounter.TheVariants as of
use Rattle.proof_reports.specs.Below.chart_line_rules.FieldRules.Fields.{field_named}
use Rattle.proof_reports.specs.Below.chart_lines.ChartsWords.Chart.{Chart, NumbersRise}
use Rattle.proof_reports.specs.Below.chart_lines.ChartsWords.Levels.{level_number}
use Rattle.proof_reports.specs.Below.chart_lines.declared.charts.chart.Line.{Line}
use Rattle.proof_reports.specs.Below.chart_lines.declared.charts.statement.SignRule.{SignRule}
use Rattle.proof_reports.specs.Below.chart_lines.declared.charts.statement.Statement.{Statement}
use Rattle.proof_cycles.specs.Below.counters.Rings.{IsFedAlone}
use Rattle.proof_reports.proofs.Below.hubs.SetupsWords.WiredLemmas.{HasWire-is_wired}
use Rattle.proof_reports.specs.Below.hubs.SetupsWords.Wiring.{HasWire, Wiring, is_wired}
use Rattle.proof_reports.specs.Below.hubs.declared.hub.Group.{Group}
use Rattle.proof_reports.specs.Below.hubs.declared.hub.Hub.{Hub}
use Rattle.proof_reports.specs.Below.hubs.declared.hub.Hub.TheVariants.{CI, CO}
use Rattle.wiring_table.specs.Figures.{IsSigned}
use Rattle.wiring_table.specs.Parts.{HasPanelGroup, HasTotal, ServesTotal, counter_for, group_for, panel_group}
use Rattle.wiring_table.specs.Wires.{ChartWire, LineWire}
use Rattle.wiring_table.specs.Wires.LineWire.{carry_round, carry_up, ring}
use Rattle.wiring_table.proofs.Groups.{pair-apart, serves-own, single-serves}
use Rattle.proof_reports.proofs.WiredPanels.CycleAsks.AmountFacts.{signed_from, signed_is, total_field}
use Rattle.proof_reports.proofs.WiredPanels.CycleAsks.Counters.{grouped}
use Rattle.proof_reports.proofs.WiredPanels.Chains.{ToCarry, from_itself, from_lower, from_upper, to_carry}
use Rattle.proof_reports.proofs.WiredPanels.CounterAsksTold.{named_so, wire_of}
use Rattle.proof_reports.proofs.WiredPanels.PlanOwners.{one_owner}
use Rattle.proof_reports.proofs.WiredPanels.ToCounters.{IsLine, itself, on_line}
use Rattle.proof_reports.proofs.WiredPanels.Ways.{same_tests}
use Rattle.proof_reports.specs.WiredPanels.Groups.{IsCounterOf, IsGroupOf}
use Rattle.proof_reports.specs.WiredPanels.Panel.{IsPanel}

-- a group into which a carry goes serves the total of the wire's line
carry_serves : (lines : List Line) (plan : Lists) (number : ℕ) (group : Group) {exit : Hub} → ToCarry lines plan number group exit
    → ServesTotal lines plan number group
carry_serves lines plan number group (from_itself name rule is signed) = single-serves lines plan number group is
carry_serves lines plan number group (from_lower lower upper there same) =
    record { counter = of.Coupled lower upper; there = there; has = inr same }
carry_serves lines plan number group (from_upper lower upper there same) =
    record { counter = of.Coupled lower upper; there = there; has = inl same }

-- a counter of one group is not one of two
no_pair : {o : Option TotalCounter} {lower upper own : CounterGroup} → o ≡ Some (of.Coupled lower upper) → o ≡ Some (of.Single own) → ⊥
no_pair pair single = let same = sym pair ∙ single in cc

no_single : (lines : List Line) (plan : Lists) (number : ℕ) (group : Group) (lower upper : CounterGroup)
    → counter_for lines plan number ≡ Some (of.Coupled lower upper) → group_for lines plan number ≡ Some group → ⊥
no_single lines plan number group lower upper pair single =
    let none : group_for lines plan number ≡ None = ap (λ o. option_map panel_group (option_and_then single_group o)) pair in
    let same = sym single ∙ none in
    cc

-- the groups of a pair, by its counter
same_lower : {o : Option TotalCounter} {lower upper low up : CounterGroup} → o ≡ Some (of.Coupled lower upper) → o ≡ Some (of.Coupled low up)
    → lower ≡ low
same_lower one other = let same = sym one ∙ other in cc

same_upper : {o : Option TotalCounter} {lower upper low up : CounterGroup} → o ≡ Some (of.Coupled lower upper) → o ≡ Some (of.Coupled low up)
    → upper ≡ up
same_upper one other = let same = sym one ∙ other in cc

-- What a wire of a carry says: it leads from the lower group of two to the upper one, or its total is signed.
pub data SaysCarry (lines : List Line) (plan : Lists) (number : ℕ) (exit : Hub) (group : Group) : Type 0 where
  goes_up : (lower upper : CounterGroup) → counter_for lines plan number ≡ Some (of.Coupled lower upper) → exit ≡ CO (panel_group lower)
      → panel_group upper ≡ group → SaysCarry lines plan number exit group
  is_signed : (name : List ℕ) (level : ℕ) (rule : SignRule) → HasTotal lines name level number → IsSigned lines name rule
      → SaysCarry lines plan number exit group

says_carry : (lines : List Line) (plan : Lists) (number : ℕ) {statement : Statement} {exit : Hub} {group : Group}
    → IsLine lines number statement → LineWire lines plan number statement exit (CI group) → SaysCarry lines plan number exit group
says_carry lines plan number at (ring total rule group is signed) =
    is_signed total.name (level_number total.level) rule (on_line lines plan total number at) signed
says_carry lines plan number at (carry_up total lower upper there) = goes_up lower upper there refl refl
says_carry lines plan number at (carry_round total rule lower upper there signed) =
    is_signed total.name (level_number total.level) rule (on_line lines plan total number at) signed

module _ (chart : Chart) (plan : Lists) (wiring : Wiring) (panel : IsPanel chart plan wiring) {name : List ℕ} {level : ℕ}
    {counter : TotalCounter} (own : IsCounterOf chart.lines plan name level counter) where
  -- the carry wires to a group of a counter are those of its total
  own_number : (number : ℕ) (group : Group) → HasPanelGroup counter group → ServesTotal chart.lines plan number group → number ≡ own.number
  own_number number group has serves =
      serves-own chart.lines plan panel.planned number own.number group serves (record { counter = counter; there = own.served; has = has })

  carries_of : (group : Group) → HasPanelGroup counter group → (exit : Hub) → HasWire wiring exit (CI group)
      → ToCarry chart.lines plan own.number group exit
  carries_of group has exit wire =
      let w = (panel.wired.wires exit (CI group)).0 wire in
      let carry = to_carry chart.lines plan w.line.number w.wire in
      subst (λ n. ToCarry chart.lines plan n group exit)
      (own_number w.line.number group has (carry_serves chart.lines plan w.line.number group carry)) carry

  says_of : (group : Group) → HasPanelGroup counter group → (exit : Hub) → is_wired wiring exit (CI group) ≡ true
      → SaysCarry chart.lines plan own.number exit group
  says_of group has exit on =
      let w = (panel.wired.wires exit (CI group)).0 ((HasWire-is_wired wiring exit (CI group)).0 on) in
      let carry = to_carry chart.lines plan w.line.number w.wire in
      subst (λ n. SaysCarry chart.lines plan n exit group)
      (own_number w.line.number group has (carry_serves chart.lines plan w.line.number group carry))
      (says_carry chart.lines plan w.line.number (itself chart.lines w.line w.listed) w.wire)

  -- a wire of the counter's line is on the panel
  on_panel : (exit entry : Hub) → ChartWire chart.lines plan exit entry → is_wired wiring exit entry ≡ true
  on_panel exit entry w = (HasWire-is_wired wiring exit entry).1 ((panel.wired.wires exit entry).1 w)

  -- the sign of the amount, by that of a total on the line
  signed_so : NumbersRise chart.lines chart.end → (group : Group) → HasPanelGroup counter group → (its : List ℕ) (its_level : ℕ) (rule : SignRule)
      → HasTotal chart.lines its its_level own.number → IsSigned chart.lines its rule → has_sign (field_named chart.lines name) ≡ true
  signed_so rise group has its its_level rule total its_sign =
      let given : IsGroupOf chart.lines plan its its_level group =
      record { number = own.number; total = total; served = record { counter = counter; there = own.served; has = has } } in
      let same = one_owner chart plan its name its_level level group rise panel.planned given (grouped chart.lines plan own group has) in
      signed_is chart.lines name rule (subst (λ n. IsSigned chart.lines n rule) same.name its_sign)

  -- the rule of a signed amount
  ruled : has_sign (field_named chart.lines name) ≡ true → (rule : SignRule) × IsSigned chart.lines name rule
  ruled on =
      let (field, amount) = total_field chart name level own.number panel.lawful own.total in
      signed_from chart.lines name field amount.named on

module _ (chart : Chart) (plan : Lists) (wiring : Wiring) (panel : IsPanel chart plan wiring) (rise : NumbersRise chart.lines chart.end)
    {name : List ℕ} {level : ℕ} (group : CounterGroup) (own : IsCounterOf chart.lines plan name level (of.Single group)) where
  -- the only group of a total is fed by itself alone
  pub fed_single : IsFedAlone wiring (panel_group group) (panel_group group)
  fed_single exit wire = by (carries_of chart plan wiring panel own (panel_group group) refl exit wire)
    where
      by : {x : Hub} → ToCarry chart.lines plan own.number (panel_group group) x → x ≡ CO (panel_group group)
      by (from_itself its rule is signed) = refl
      by (from_lower lower upper there same) = absurd (no_pair there own.served)
      by (from_upper lower upper there same) = absurd (no_pair there own.served)

  -- and forms a ring exactly where its amount is signed
  pub ring_single : is_wired wiring (CO (panel_group group)) (CI (panel_group group)) ≡ has_sign (field_named chart.lines name)
  ring_single = same_tests _ _ (λ on. told (says_of chart plan wiring panel own (panel_group group) refl (CO (panel_group group)) on)) given
    where
      told : {x : Hub} → SaysCarry chart.lines plan own.number x (panel_group group) → has_sign (field_named chart.lines name) ≡ true
      told (goes_up lower upper there from to) = absurd (no_pair there own.served)
      told (is_signed its its_level rule total its_sign) =
          signed_so chart plan wiring panel own rise (panel_group group) refl its its_level rule total its_sign

      given : has_sign (field_named chart.lines name) ≡ true
          → is_wired wiring (CO (panel_group group)) (CI (panel_group group)) ≡ true
      given on =
          let (rule, its_sign) = ruled chart plan wiring panel own on in
          let served : group_for chart.lines plan own.number ≡ Some (panel_group group) =
          ap (λ o. option_map panel_group (option_and_then single_group o)) own.served in
          on_panel chart plan wiring panel own (CO (panel_group group)) (CI (panel_group group))
          (wire_of chart.lines plan name level own.number (CO (panel_group group)) (CI (panel_group group)) own.total
          (ring (named_so own.total) rule (panel_group group) served its_sign))

module _ (chart : Chart) (plan : Lists) (wiring : Wiring) (panel : IsPanel chart plan wiring) (rise : NumbersRise chart.lines chart.end)
    {name : List ℕ} {level : ℕ} (lower upper : CounterGroup)
    (own : IsCounterOf chart.lines plan name level (of.Coupled lower upper)) where
  -- the two groups of a total are fed by each other alone
  pub fed_upper : IsFedAlone wiring (panel_group lower) (panel_group upper)
  fed_upper exit wire = by (carries_of chart plan wiring panel own (panel_group upper) (inr refl) exit wire)
    where
      by : {x : Hub} → ToCarry chart.lines plan own.number (panel_group upper) x → x ≡ CO (panel_group lower)
      by (from_itself its rule is signed) = absurd (no_single chart.lines plan own.number (panel_group upper) lower upper own.served is)
      by (from_lower low up there same) = ap (λ g. CO (panel_group g)) (same_lower there own.served)
      by (from_upper low up there same) =
          absurd (pair-apart chart.lines plan panel.planned own.number lower upper own.served
          (sym (ap panel_group (same_lower there own.served)) ∙ same))

  pub fed_lower : IsFedAlone wiring (panel_group upper) (panel_group lower)
  fed_lower exit wire = by (carries_of chart plan wiring panel own (panel_group lower) (inl refl) exit wire)
    where
      by : {x : Hub} → ToCarry chart.lines plan own.number (panel_group lower) x → x ≡ CO (panel_group upper)
      by (from_itself its rule is signed) = absurd (no_single chart.lines plan own.number (panel_group lower) lower upper own.served is)
      by (from_lower low up there same) =
          absurd (pair-apart chart.lines plan panel.planned own.number lower upper own.served
          (sym same ∙ ap panel_group (same_upper there own.served)))
      by (from_upper low up there same) = ap (λ g. CO (panel_group g)) (same_upper there own.served)

  -- the carry goes up, and comes round exactly where the amount is signed
  pub goes_through : is_wired wiring (CO (panel_group lower)) (CI (panel_group upper)) ≡ true
  goes_through =
      on_panel chart plan wiring panel own (CO (panel_group lower)) (CI (panel_group upper))
      (wire_of chart.lines plan name level own.number (CO (panel_group lower)) (CI (panel_group upper)) own.total
      (carry_up (named_so own.total) lower upper own.served))

  pub ring_pair : is_wired wiring (CO (panel_group upper)) (CI (panel_group lower)) ≡ has_sign (field_named chart.lines name)
  ring_pair = same_tests _ _ (λ on. told (says_of chart plan wiring panel own (panel_group lower) (inl refl) (CO (panel_group upper)) on) refl) given
    where
      same_group : {one other : Group} → CO one ≡ CO other → one ≡ other
      same_group same = cc

      told : {x : Hub} → SaysCarry chart.lines plan own.number x (panel_group lower) → x ≡ CO (panel_group upper)
          → has_sign (field_named chart.lines name) ≡ true
      told (goes_up low up there from to) is =
          absurd (pair-apart chart.lines plan panel.planned own.number lower upper own.served
          (sym (ap panel_group (same_lower there own.served)) ∙ same_group (sym from ∙ is)))
      told (is_signed its its_level rule total its_sign) is =
          signed_so chart plan wiring panel own rise (panel_group lower) (inl refl) its its_level rule total its_sign

      given : has_sign (field_named chart.lines name) ≡ true
          → is_wired wiring (CO (panel_group upper)) (CI (panel_group lower)) ≡ true
      given on =
          let (rule, its_sign) = ruled chart plan wiring panel own on in
          on_panel chart plan wiring panel own (CO (panel_group upper)) (CI (panel_group lower))
          (wire_of chart.lines plan name level own.number (CO (panel_group upper)) (CI (panel_group lower)) own.total
          (carry_round (named_so own.total) rule lower upper own.served its_sign))
