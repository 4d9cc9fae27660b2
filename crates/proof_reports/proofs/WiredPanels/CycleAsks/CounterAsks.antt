-- What is asked of the counter of a total in a cycle, by the pictures of the cycle.
use Rattle.std.proofs.Common.{◌≡◌, ◌∙◌, refl, sym, ap, subst, ℕ, ◌^◌, ◌<◌, ◌==◌, ◌&&◌, Bool, true, false, List, Some, arith, if◌then◌else◌}
use Rattle.std.proofs.lemmas.Bool.Decides.{nat_tests}
use Rattle.proof_cycles.specs.TotalsWords.CounterCycles.Acts.{Act, Held, act_controls, digit_of}
use Rattle.proof_cycles.specs.TotalsWords.CounterCycles.Acts.Act.{Still}
use Rattle.proof_reports.specs.Below.chart_line_rules.FieldRules.Coupled.{has_sign}
use Rattle.proof_reports.specs.Below.chart_plans.PlansWords.Plans.{Lists}
use Rattle.proof_reports.specs.Below.chart_line_rules.FieldRules.Fields.{field_named}
use Rattle.proof_reports.specs.Below.chart_lines.ChartsWords.Chart.{Chart, NumbersRise}
use Rattle.proof_reports.specs.Below.chart_lines.declared.charts.statement.Field.{Field}
use Rattle.proof_reports.specs.Below.hubs.SetupsWords.Wiring.{Wiring}
use Rattle.proof_reports.specs.Below.hubs.declared.hub.Group.{Group}
use Rattle.proof_reports.specs.Below.hubs.declared.hub.Hub.{Hub}
use Rattle.proof_reports.specs.Below.machine.Machine.{MachineState}
use Rattle.proof_cycles.specs.Below.net.Cycles.{level_number}
use Rattle.proof_cycles.specs.Below.net.declared.cycle.Cycle.{Cycle}
use Rattle.proof_cycles.specs.Below.net.declared.cycle.Cycle.TheVariants.{RunIn, Card, Prog, Head}
use Rattle.proof_cycles.specs.Below.net.declared.cycle.ProgramLevel.{ProgramLevel}
use Rattle.proof_cycles.specs.Below.net.declared.cycle.Ordinal.{Ordinal}
use Rattle.proof_cycles.specs.Below.net.declared.cycle.Ordinal.TheVariants.{First, Second, Third}
use Rattle.proof_cycles.specs.Below.net.declared.cycle.Point.{Point}
use Rattle.report_definition.specs.Amounts.{digits_on, number_in, is_negated}
use Rattle.proof_cycles.specs.TotalsWords.Amounts.{Amount, IsSmall, Kind, act_of, lower}
use Rattle.proof_cycles.specs.TotalsWords.Amounts.Kind.{Entry, Prog as ProgKind, Other}
use Rattle.wiring_table.specs.Figures.{IsAmount}
use Rattle.proof_reports.proofs.WiredPanels.CycleAsks.AmountFacts.{digits_are, has_it, lowest_from, signed_from, total_field, total_level, under_from}
use Rattle.proof_reports.proofs.WiredPanels.Contacts.{is_set}
use Rattle.proof_reports.proofs.WiredPanels.CycleAsks.CounterAsksEntries.{card_spells, turn_spells, up_spells}
use Rattle.proof_reports.proofs.WiredPanels.CycleAsks.Counters.{EnteredCounter, SpellsCounter, asks_of, balanced, counter_held, grouped}
use Rattle.proof_reports.proofs.WiredPanels.CycleAsks.CounterAsksKinds.{AreTold, card_act, card_controls}
use Rattle.proof_reports.proofs.WiredPanels.CycleAsks.CounterAsksSteps.{first_controls, other_controls, second_controls, show_act, test_act, third_controls, turn_act}
use Rattle.proof_reports.specs.WiredPanels.Groups.{IsCounterOf}
use Rattle.proof_reports.specs.WiredPanels.CycleAsks.ChartAmounts.{amount_of}
use Rattle.proof_reports.specs.WiredPanels.PanelCycles.{IsCardRead, IsPanelCycle}
use Rattle.proof_reports.specs.WiredPanels.CycleAsks.CounterStates.{AsksCounter, IsKindOf, held_in, number_held, state_of}
use Rattle.proof_reports.specs.WiredPanels.CycleAsks.CounterStates.IsKindOf.{card as card_kind, heading as heading_kind, program as program_kind, run_in as run_in_kind}
use Rattle.proof_reports.specs.Below.chart_plans.declared.plans.counter.TotalCounter.{TotalCounter}
use Rattle.proof_reports.specs.Below.chart_plans.declared.plans.counter.TotalCounter.TheVariants as of
use Rattle.wiring_table.proofs.Groups.{counter-given}
use Rattle.wiring_table.specs.Parts.{HasPanelGroup, top_group}

-- tests
is_number : (a b : ℕ) → (a == b) ≡ true → a ≡ b
is_number a b e = grind (arith, nat_tests, e)

first_holds : (a b : Bool) → (a && b) ≡ true → a ≡ true
first_holds true b on = refl
first_holds false b on = cc

second_holds : (a b : Bool) → (a && b) ≡ true → b ≡ true
second_holds true b on = on
second_holds false b on = cc

-- what is entered for what is asked
card_entered : (is_lowest is_negative : Bool) (size held : ℕ) (counter : TotalCounter) (pictures : Point → Hub → Bool)
    → (is_lowest ≡ true → SpellsCounter counter (digit_of size) pictures)
    → EnteredCounter (card_act is_lowest is_negative size) held counter pictures
card_entered true true size held (of.Single group) pictures spells = spells refl
card_entered true true size held (of.Coupled lower upper) pictures spells = spells refl
card_entered true false size held (of.Single group) pictures spells = spells refl
card_entered true false size held (of.Coupled lower upper) pictures spells = spells refl
card_entered false is_negative size held (of.Single group) pictures spells = tt
card_entered false is_negative size held (of.Coupled lower upper) pictures spells = tt

still_entered : (held : ℕ) (counter : TotalCounter) (pictures : Point → Hub → Bool) → EnteredCounter Still held counter pictures
still_entered held (of.Single group) pictures = tt
still_entered held (of.Coupled lower upper) pictures = tt

test_entered : (is_tested : Bool) (held : ℕ) (counter : TotalCounter) (pictures : Point → Hub → Bool)
    → EnteredCounter (test_act is_tested) held counter pictures
test_entered true held (of.Single group) pictures = tt
test_entered true held (of.Coupled lower upper) pictures = tt
test_entered false held counter pictures = still_entered held counter pictures

turn_entered : (is_turned : Bool) (held : ℕ) (counter : TotalCounter) (pictures : Point → Hub → Bool)
    → (is_turned ≡ true → SpellsCounter counter (digit_of held) pictures) → EnteredCounter (turn_act is_turned) held counter pictures
turn_entered true held (of.Single group) pictures spells = spells refl
turn_entered true held (of.Coupled lower upper) pictures spells = spells refl
turn_entered false held counter pictures spells = still_entered held counter pictures

show_entered : (is_shown goes_up is_negative : Bool) (size held : ℕ) (counter : TotalCounter) (pictures : Point → Hub → Bool)
    → (goes_up ≡ true → SpellsCounter counter (digit_of size) pictures)
    → EnteredCounter (show_act is_shown goes_up is_negative size) held counter pictures
show_entered true goes_up is_negative size held (of.Single group) pictures spells = tt
show_entered true goes_up is_negative size held (of.Coupled lower upper) pictures spells = tt
show_entered false true true size held (of.Single group) pictures spells = spells refl
show_entered false true true size held (of.Coupled lower upper) pictures spells = spells refl
show_entered false true false size held (of.Single group) pictures spells = spells refl
show_entered false true false size held (of.Coupled lower upper) pictures spells = spells refl
show_entered false false is_negative size held counter pictures spells = still_entered held counter pictures

module _ (chart : Chart) (plan : Lists) (wiring : Wiring) (rise : NumbersRise chart.lines chart.end) (old : MachineState)
    (pictures : Point → Hub → Bool) (name : List ℕ) (level : ℕ) (counter : TotalCounter) (own : IsCounterOf chart.lines plan name level counter) where
  -- the amount, and what its totals hold
  abbrev amount : Amount
  amount = amount_of chart.lines plan name

  abbrev state : ℕ → Held
  state = state_of old chart.lines plan name

  -- the group with the balance
  abbrev top : Group
  top = top_group counter

  -- what is asked at a level that has a total
  asked_here : (act : Act) → (if amount.has level then act else Still) ≡ act
  asked_here act = ap (λ b. if b then act else Still) (has_it chart.lines plan name level own.number own.total)

  -- what the counter holds
  pub held_here : (cycle : Cycle) → IsPanelCycle chart plan wiring old cycle pictures → state level ≡ held_in old (Some counter)
  held_here cycle at = counter_held old chart plan name level counter at.panel.lawful own

  -- In a card cycle the lowest total is asked to add or subtract the number of the card, and the others nothing.
  pub asks_card :
      (at : IsPanelCycle chart plan wiring old Card pictures) (card : List ℕ) → IsCardRead chart plan old card
      → (field : Field) → IsAmount chart.lines name field
      → AsksCounter (act_of amount (Entry (is_negated field.kind card) (number_in (digits_on field card))) state level) (state level).number
      counter pictures
  asks_card at card read field is_amount =
      let size = number_in (digits_on field card) in
      let negative = has_sign (field_named chart.lines name) && is_negated field.kind card in
      subst (λ act. AsksCounter act (state level).number counter pictures)
      (sym (asked_here (card_act (lower amount.has level == 0) negative size)))
      (asks_of counter _ (state level).number pictures
      (λ group has.
      card_controls chart plan wiring rise old pictures name level group (grouped chart.lines plan own group has) top
      (balanced chart.lines plan own) at card read field is_amount size)
      (card_entered (lower amount.has level == 0) negative size (state level).number counter pictures
      (λ low. card_spells chart plan wiring rise old pictures name level counter own at card read field is_amount
      (lowest_from chart.lines plan name level (total_level own.total) (is_number (lower amount.has level) 0 low)))))

  -- In the run-in and in heading cycles nothing is asked.
  pub asks_run_in : IsPanelCycle chart plan wiring old RunIn pictures
      → AsksCounter (act_of amount Other state level) (state level).number counter pictures
  asks_run_in at =
      subst (λ act. AsksCounter act (state level).number counter pictures) (sym (asked_here Still))
      (asks_of counter Still (state level).number pictures
      (λ group has.
      other_controls chart plan wiring rise old pictures name level group (grouped chart.lines plan own group has) top
      (balanced chart.lines plan own) RunIn at (λ step low is. is) (λ is. is))
      (still_entered (state level).number counter pictures))

  pub asks_heading : (heading : Ordinal) → IsPanelCycle chart plan wiring old (Head heading) pictures
      → AsksCounter (act_of amount Other state level) (state level).number counter pictures
  asks_heading heading at =
      subst (λ act. AsksCounter act (state level).number counter pictures) (sym (asked_here Still))
      (asks_of counter Still (state level).number pictures
      (λ group has.
      other_controls chart plan wiring rise old pictures name level group (grouped chart.lines plan own group has) top
      (balanced chart.lines plan own) (Head heading) at (λ step low is. is) (λ is. is))
      (still_entered (state level).number counter pictures))

  -- In the first program cycle of its level a signed total tests its balance.
  pub asks_first : (l : ProgramLevel) → IsPanelCycle chart plan wiring old (Prog l First) pictures
      → AsksCounter (act_of amount (ProgKind (level_number l) First) state level) (state level).number counter pictures
  asks_first l at =
      let (field, is_amount) = total_field chart name level own.number at.panel.lawful own.total in
      let t = has_sign (field_named chart.lines name) && (level_number l == level) in
      subst (λ act. AsksCounter act (state level).number counter pictures) (sym (asked_here (test_act t)))
      (asks_of counter (test_act t) (state level).number pictures
      (λ group has.
      first_controls chart plan wiring rise old pictures name level group (grouped chart.lines plan own group has) top
      (balanced chart.lines plan own) l field is_amount at)
      (test_entered t (state level).number counter pictures))

  -- In the second a signed total with a set latch turns its balance.
  pub asks_second : (l : ProgramLevel) → IsPanelCycle chart plan wiring old (Prog l Second) pictures
      → AsksCounter (act_of amount (ProgKind (level_number l) Second) state level) (state level).number counter pictures
  asks_second l at =
      let (field, is_amount) = total_field chart name level own.number at.panel.lawful own.total in
      let held = held_here (Prog l Second) at in
      let t = has_sign (field_named chart.lines name) && ((level_number l == level) && is_set old top) in
      let same : (has_sign (field_named chart.lines name) && ((level_number l == level) && (state level).latch)) ≡ t =
      ap (λ h. has_sign (field_named chart.lines name) && ((level_number l == level) && h.latch)) held in
      let told : (group : Group) → HasPanelGroup counter group → AreTold group top (act_controls (turn_act t)) pictures =
      λ group has.
      second_controls chart plan wiring rise old pictures name level group (grouped chart.lines plan own group has) top
      (balanced chart.lines plan own) l field is_amount at in
      subst (λ act. AsksCounter act (state level).number counter pictures) (sym (asked_here _ ∙ ap turn_act same))
      (asks_of counter (turn_act t) (state level).number pictures told
      (turn_entered t (state level).number counter pictures (λ is. spells field is_amount held is told)))
    where
      spells : (field : Field) → IsAmount chart.lines name field → state level ≡ held_in old (Some counter)
          → (has_sign (field_named chart.lines name) && ((level_number l == level) && is_set old top)) ≡ true
          → ((group : Group) → HasPanelGroup counter group
          → AreTold group top (act_controls (turn_act (has_sign (field_named chart.lines name) && ((level_number l == level) && is_set old top)))) pictures)
          → SpellsCounter counter (digit_of (state level).number) pictures
      spells field is_amount held is told =
          let signed = first_holds (has_sign (field_named chart.lines name)) ((level_number l == level) && is_set old top) is in
          let rest = second_holds (has_sign (field_named chart.lines name)) ((level_number l == level) && is_set old top) is in
          let is_level = is_number (level_number l) level (first_holds (level_number l == level) (is_set old top) rest) in
          let (rule, its_sign) = signed_from chart.lines name field is_amount.named signed in
          subst (λ h. SpellsCounter counter (digit_of h.number) pictures) (sym held)
          (turn_spells chart plan wiring rise old pictures name level counter own l at is_level rule its_sign
          (λ group has. (told group has).read_out ∙ ap (λ b. (act_controls (turn_act b)).read_out) is))

  -- In the third a total is shown, and the next higher one adds or subtracts what it holds, if that has no more digits than it may.
  pub asks_third : (l : ProgramLevel) → IsPanelCycle chart plan wiring old (Prog l Third) pictures
      → IsSmall amount (ProgKind (level_number l) Third) state
      → AsksCounter (act_of amount (ProgKind (level_number l) Third) state level) (state level).number counter pictures
  asks_third l at small =
      let (field, is_amount) = total_field chart name level own.number at.panel.lawful own.total in
      let e = level_number l == level in
      let u = amount.has (level_number l) && (lower amount.has level == level_number l) in
      let m = has_sign (field_named chart.lines name) && (state (level_number l)).latch in
      subst (λ act. AsksCounter act (state level).number counter pictures) (sym (asked_here (show_act e u m (state (level_number l)).number)))
      (asks_of counter (show_act e u m (state (level_number l)).number) (state level).number pictures
      (λ group has.
      third_controls chart plan wiring rise old pictures name level group (grouped chart.lines plan own group has) top
      (balanced chart.lines plan own) l field is_amount at (state (level_number l)).number)
      (show_entered e u m (state (level_number l)).number (state level).number counter pictures spells))
    where
      spells : (amount.has (level_number l) && (lower amount.has level == level_number l)) ≡ true
          → SpellsCounter counter (digit_of (state (level_number l)).number) pictures
      spells goes =
          let has = first_holds (amount.has (level_number l)) (lower amount.has level == level_number l) goes in
          let next = is_number (lower amount.has level) (level_number l)
          (second_holds (amount.has (level_number l)) (lower amount.has level == level_number l) goes) in
          let under = under_from chart.lines plan name level (total_level own.total) (level_number l) has next in
          let (lower_counter, there) = counter-given chart.lines plan name (level_number l) under.number at.panel.planned under.total in
          let held : state (level_number l) ≡ held_in old (Some lower_counter) =
          counter_held old chart plan name (level_number l) lower_counter at.panel.lawful
          (record { number = under.number; total = under.total; served = there }) in
          let few : number_held old lower_counter < 10 ^ under.total.asked.digits =
          subst (λ d. number_held old lower_counter < 10 ^ d)
          (digits_are chart plan name (level_number l) under.number at.panel.lawful under.total)
          (subst (λ h. h.number < 10 ^ amount.digits (level_number l)) held (small.1 has)) in
          subst (λ h. SpellsCounter counter (digit_of h.number) pictures) (sym held)
          (up_spells chart plan wiring rise old pictures name level counter own l at under lower_counter there few)

  -- in each program cycle
  pub asks_step : (l : ProgramLevel) (ordinal : Ordinal) → IsPanelCycle chart plan wiring old (Prog l ordinal) pictures
      → IsSmall amount (ProgKind (level_number l) ordinal) state
      → AsksCounter (act_of amount (ProgKind (level_number l) ordinal) state level) (state level).number counter pictures
  asks_step l First at small = asks_first l at
  asks_step l Second at small = asks_second l at
  asks_step l Third at small = asks_third l at small

  -- What is asked of a total in a cycle of a kind is asked of its counter, by the pictures of the cycle.
  pub asks : (cycle : Cycle) (kind : Kind) → IsPanelCycle chart plan wiring old cycle pictures → IsKindOf chart plan old name cycle kind
      → IsSmall amount kind state → AsksCounter (act_of amount kind state level) (state level).number counter pictures
  asks cycle kind at is small = by is at small
    where
      by : {its_cycle : Cycle} {its_kind : Kind} → IsKindOf chart plan old name its_cycle its_kind
          → IsPanelCycle chart plan wiring old its_cycle pictures → IsSmall amount its_kind state
          → AsksCounter (act_of amount its_kind state level) (state level).number counter pictures
      by (card_kind card field read is_amount) at small = asks_card at card read field is_amount
      by (program_kind l ordinal) at small = asks_step l ordinal at small
      by run_in_kind at small = asks_run_in at
      by (heading_kind ordinal) at small = asks_heading ordinal at
