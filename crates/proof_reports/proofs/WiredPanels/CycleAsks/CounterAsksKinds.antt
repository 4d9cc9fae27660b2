-- The control hubs of a counter group of a total are impulsed as what is asked of it says, in each kind of cycle.
use Rattle.std.proofs.Common.{◌≡◌, ◌∙◌, refl, sym, ap, ℕ, ◌≤◌, ◌==◌, ◌&&◌, not, Bool, true, false, List, Some, arith, if◌then◌else◌}
use Rattle.std.proofs.lemmas.Bool.Decides.{nat_tests}
use Rattle.std.proofs.lemmas.Bool.{not-true, false_from_ne_true, both_ways}
use Rattle.proof_cycles.specs.TotalsWords.CounterCycles.Acts.{Act, act_controls, IsControlled}
use Rattle.proof_cycles.specs.TotalsWords.CounterCycles.Acts.Act.{Still}
use Rattle.proof_cycles.specs.Below.counters.declared.controls.Controls.{Controls}
use Rattle.proof_reports.specs.Below.chart_line_rules.FieldRules.Coupled.{has_sign}
use Rattle.proof_reports.specs.Below.chart_plans.PlansWords.Plans.{Lists}
use Rattle.proof_reports.specs.Below.chart_line_rules.FieldRules.Fields.{field_named}
use Rattle.proof_reports.specs.Below.chart_lines.ChartsWords.Chart.{Chart, NumbersRise}
use Rattle.proof_reports.specs.Below.chart_lines.declared.charts.statement.Field.{Field}
use Rattle.proof_reports.specs.Below.chart_lines.declared.charts.statement.SignRule.{SignRule}
use Rattle.proof_reports.specs.Below.hubs.SetupsWords.Wiring.{Wiring}
use Rattle.proof_reports.specs.Below.hubs.HubTable.Ranges.{is_within}
use Rattle.proof_reports.specs.Below.hubs.declared.hub.Group.{Group}
use Rattle.proof_reports.specs.Below.hubs.declared.hub.Hub.{Hub}
use Rattle.proof_reports.specs.Below.hubs.declared.hub.Hub.TheVariants.{CC, PL, MI, RO, BT, PIC}
use Rattle.proof_reports.specs.Below.machine.Machine.{MachineState}
use Rattle.proof_cycles.specs.Below.net.declared.cycle.Cycle.TheVariants.{Card}
use Rattle.proof_cycles.specs.Below.net.declared.cycle.Point.{Point}
use Rattle.proof_cycles.specs.Below.net.declared.cycle.Point.TheVariants.{C}
use Rattle.report_definition.specs.Amounts.{is_negated, is_negative_by}
use Rattle.proof_cycles.specs.TotalsWords.Amounts.{lower, posted}
use Rattle.wiring_table.specs.Figures.{IsAmount, IsSigned, rule_of}
use Rattle.wiring_table.specs.Parts.{IsLowest, pilot_for, top_for}
use Rattle.proof_reports.proofs.WiredPanels.CycleAsks.AmountFacts.{total_level, lowest_is, lowest_from, signed_is, unsigned_is, signed_from, unsigned_from}
use Rattle.proof_reports.proofs.WiredPanels.CounterAsksContacts.{pilot_within, negative_closed, positive_closed, negated_is}
use Rattle.proof_reports.proofs.WiredPanels.CounterAsksControls.{shut, Pluses, Minuses, ReadsOut, Tests, numbered, plus_is, minus_is, read_is, test_is}
use Rattle.proof_reports.proofs.WiredPanels.CounterAsksControls.Pluses.{card as adds_card, by_sign, up, by_latch}
use Rattle.proof_reports.proofs.WiredPanels.CounterAsksControls.Minuses.{less_by_sign, less_turned, less_by_latch}
use Rattle.proof_reports.proofs.WiredPanels.CounterAsksControls.ReadsOut.{shows_it, turns_it}
use Rattle.proof_reports.proofs.WiredPanels.CounterAsksControls.Tests.{tests_it}
use Rattle.proof_reports.proofs.WiredPanels.CounterAsksGiven.{gives_plus, gives_minus, to_sign}
use Rattle.proof_reports.proofs.WiredPanels.PlanOwners.{has_pilot}
use Rattle.proof_reports.specs.WiredPanels.CycleAsks.ChartAmounts.{amount_of}
use Rattle.proof_reports.specs.WiredPanels.Groups.{IsGroupOf}
use Rattle.proof_reports.specs.WiredPanels.PanelCycles.{IsPanelCycle, IsCardRead}

-- what a card asks, by whether the total is the lowest and whether the card is subtracted
abbrev pub card_act : (is_lowest is_negative : Bool) → ℕ → Act
card_act is_lowest is_negative size = if is_lowest then posted is_negative size else Still

card_plus : (z m p : Bool) (size : ℕ) → (p ≡ true → z ≡ true) → (p ≡ true → m ≡ false) → (z ≡ true → m ≡ false → p ≡ true)
    → p ≡ (act_controls (card_act z m size)).plus
card_plus true false true size a b c = refl
card_plus true false false size a b c = c refl refl
card_plus true true true size a b c = absurd (both_ways _ (b refl) refl)
card_plus true true false size a b c = refl
card_plus false m true size a b c = absurd (both_ways _ refl (a refl))
card_plus false m false size a b c = refl

card_minus : (z m p : Bool) (size : ℕ) → (p ≡ true → z ≡ true) → (p ≡ true → m ≡ true) → (z ≡ true → m ≡ true → p ≡ true)
    → p ≡ (act_controls (card_act z m size)).minus
card_minus true true true size a b c = refl
card_minus true true false size a b c = c refl refl
card_minus true false true size a b c = absurd (both_ways _ refl (b refl))
card_minus true false false size a b c = refl
card_minus false m true size a b c = absurd (both_ways _ refl (a refl))
card_minus false m false size a b c = refl

card_rest : (z m : Bool) (size : ℕ) → ((act_controls (card_act z m size)).read_out ≡ false) × ((act_controls (card_act z m size)).test ≡ false)
card_rest true true size = (refl, refl)
card_rest true false size = (refl, refl)
card_rest false m size = (refl, refl)

-- The control hubs of a group of a total are impulsed at the control point as the controls say, and so is the test of the balance at its
-- top group.
pub record AreTold (group top : Group) (controls : Controls) (pictures : Point → Hub → Bool) : Type 0 where
  pub plus : pictures C (PL group) ≡ controls.plus
  pub minus : pictures C (MI group) ≡ controls.minus
  pub read_out : pictures C (RO group) ≡ controls.read_out
  pub test : pictures C (BT top) ≡ controls.test

-- so a group that is its own top group is controlled
pub alone : (group : Group) (controls : Controls) (pictures : Point → Hub → Bool) → AreTold group group controls pictures
    → IsControlled group controls pictures
alone group controls pictures told =
    record { plus = told.plus; minus = told.minus; read_out = told.read_out; test = told.test }

module _ (chart : Chart) (plan : Lists) (wiring : Wiring) (rise : NumbersRise chart.lines chart.end) (old : MachineState)
    (pictures : Point → Hub → Bool) (name : List ℕ) (level : ℕ) (group : Group) (own : IsGroupOf chart.lines plan name level group)
    (top : Group) (balance : top_for chart.lines plan own.number ≡ Some top) where
  -- whether the amount is signed, and whether the total is the lowest
  abbrev signed : Bool
  signed = has_sign (field_named chart.lines name)

  abbrev below : ℕ
  below = lower (amount_of chart.lines plan name).has level

  -- the total's level
  some : 1 ≤ level
  some = total_level own.total

  module _ (at : IsPanelCycle chart plan wiring old Card pictures) (card : List ℕ) (read : IsCardRead chart plan old card)
      (field : Field) (amount : IsAmount chart.lines name field) where
    -- whether a card is subtracted
    abbrev negative : Bool
    negative = signed && is_negated field.kind card

    -- the pilot of the amount is one of the panel
    within_panel : (rule : SignRule) (pilot : ℕ) → IsLowest chart.lines name level → IsSigned chart.lines name rule
        → pilot_for plan name ≡ Some pilot → is_within pilot 16 ≡ true
    within_panel rule pilot low is served =
        let wire = numbered chart plan wiring old Card pictures at rise CC (PIC pilot 1)
        (to_sign chart plan wiring old Card pictures at rise name level group own top balance rule pilot low is served) in
        pilot_within pilot wire.to wire.entry_numbered

    -- the rule of the amount is its field's
    rule_is : (rule : SignRule) → IsSigned chart.lines name rule → is_negated field.kind card ≡ is_negative_by rule card
    rule_is rule is =
        let same_some : Some is.field ≡ Some field = sym is.named ∙ amount.named in
        let same : is.field ≡ field = cc in
        negated_is field.kind rule card (ap (λ (f : Field). rule_of f.kind) (sym same) ∙ is.ruled)

    pub card_controls : (size : ℕ) → AreTold group top (act_controls (card_act (below == 0) negative size)) pictures
    card_controls size = record {
      plus = card_plus (below == 0) negative (pictures C (PL group)) size (λ on. plus_low (adds on)) (λ on. plus_sign (adds on)) plus_given;
      minus = card_minus (below == 0) negative (pictures C (MI group)) size (λ on. minus_low (subtracts on)) (λ on. minus_sign (subtracts on)) minus_given;
      read_out = false_from_ne_true _ (λ on. no_read (reads on)) ∙ sym (card_rest (below == 0) negative size).0;
      test = false_from_ne_true _ (λ on. no_test (tests on)) ∙ sym (card_rest (below == 0) negative size).1;
    }
      where
        adds : pictures C (PL group) ≡ true → Pluses chart.lines plan (shut old Card) Card name level
        adds on = plus_is chart plan wiring old Card pictures at rise name level group own top balance on

        subtracts : pictures C (MI group) ≡ true → Minuses chart.lines plan (shut old Card) Card name level top
        subtracts on = minus_is chart plan wiring old Card pictures at rise name level group own top balance on

        reads : pictures C (RO group) ≡ true → ReadsOut chart.lines (shut old Card) Card name level top
        reads on = read_is chart plan wiring old Card pictures at rise name level group own top balance on

        tests : pictures C (BT top) ≡ true → Tests chart.lines Card name level
        tests on = test_is chart plan wiring old Card pictures at rise name level group own top balance on

        low_is : IsLowest chart.lines name level → (below == 0) ≡ true
        low_is low = let none = lowest_is chart.lines plan name level some low in grind (arith, nat_tests, none)

        is_low : (below == 0) ≡ true → IsLowest chart.lines name level
        is_low is = let none : below ≡ 0 = grind (arith, nat_tests, is) in lowest_from chart.lines plan name level some none

        plus_low : Pluses chart.lines plan (shut old Card) Card name level → (below == 0) ≡ true
        plus_low (adds_card is low unsigned) = low_is low
        plus_low (by_sign rule pilot is low its_sign served closed) = low_is low
        plus_low (up low is under unsigned) = absurd is
        plus_low (by_latch low rule lower is under its_sign given closed) = absurd is

        plus_sign : Pluses chart.lines plan (shut old Card) Card name level → negative ≡ false
        plus_sign (adds_card is low unsigned) = ap (λ b. b && is_negated field.kind card) (unsigned_is chart.lines name unsigned)
        plus_sign (by_sign rule pilot is low its_sign served closed) =
            let sides = positive_closed old Card card rule pilot at.between.ordered (within_panel rule pilot low its_sign served)
            (read.pilots name its_sign.field rule pilot its_sign.named its_sign.ruled served) in
            ap (λ b. b && is_negated field.kind card) (signed_is chart.lines name rule its_sign)
            ∙ rule_is rule its_sign ∙ not-true (is_negative_by rule card) (sym sides ∙ closed)
        plus_sign (up low is under unsigned) = absurd is
        plus_sign (by_latch low rule lower is under its_sign given closed) = absurd is

        minus_low : Minuses chart.lines plan (shut old Card) Card name level top → (below == 0) ≡ true
        minus_low (less_by_sign rule pilot is low its_sign served closed) = low_is low
        minus_low (less_turned rule is its_sign closed) = absurd is
        minus_low (less_by_latch low rule lower is under its_sign given closed) = absurd is

        minus_sign : Minuses chart.lines plan (shut old Card) Card name level top → negative ≡ true
        minus_sign (less_by_sign rule pilot is low its_sign served closed) =
            let sides = negative_closed old Card card rule pilot at.between.ordered (within_panel rule pilot low its_sign served)
            (read.pilots name its_sign.field rule pilot its_sign.named its_sign.ruled served) in
            ap (λ b. b && is_negated field.kind card) (signed_is chart.lines name rule its_sign)
            ∙ rule_is rule its_sign ∙ sym sides ∙ closed
        minus_sign (less_turned rule is its_sign closed) = absurd is
        minus_sign (less_by_latch low rule lower is under its_sign given closed) = absurd is

        no_read : ReadsOut chart.lines (shut old Card) Card name level top → ⊥
        no_read (shows_it is) = is
        no_read (turns_it rule is its_sign closed) = is

        no_test : Tests chart.lines Card name level → ⊥
        no_test (tests_it rule is its_sign) = is

        plus_given : (below == 0) ≡ true → negative ≡ false → pictures C (PL group) ≡ true
        plus_given low none = gives_plus chart plan wiring old Card pictures at rise name level group own top balance (by signed refl none)
          where
            by : (b : Bool) → signed ≡ b → (b && is_negated field.kind card) ≡ false
                → Pluses chart.lines plan (shut old Card) Card name level
            by false is none = adds_card tt (is_low low) (unsigned_from chart.lines name field amount is)
            by true is none =
                let (rule, its_sign) = signed_from chart.lines name field amount.named is in
                let (pilot, served) = has_pilot chart.lines plan name level own.number rule at.panel.planned own.total its_sign in
                let sides = positive_closed old Card card rule pilot at.between.ordered (within_panel rule pilot (is_low low) its_sign served)
                (read.pilots name its_sign.field rule pilot its_sign.named its_sign.ruled served) in
                by_sign rule pilot tt (is_low low) its_sign served (sides ∙ ap not (sym (rule_is rule its_sign) ∙ none))

        minus_given : (below == 0) ≡ true → negative ≡ true → pictures C (MI group) ≡ true
        minus_given low is_so = gives_minus chart plan wiring old Card pictures at rise name level group own top balance (by signed refl is_so)
          where
            by : (b : Bool) → signed ≡ b → (b && is_negated field.kind card) ≡ true
                → Minuses chart.lines plan (shut old Card) Card name level top
            by false is is_so = cc
            by true is is_so =
                let (rule, its_sign) = signed_from chart.lines name field amount.named is in
                let (pilot, served) = has_pilot chart.lines plan name level own.number rule at.panel.planned own.total its_sign in
                let sides = negative_closed old Card card rule pilot at.between.ordered (within_panel rule pilot (is_low low) its_sign served)
                (read.pilots name its_sign.field rule pilot its_sign.named its_sign.ruled served) in
                less_by_sign rule pilot tt (is_low low) its_sign served (sides ∙ sym (rule_is rule its_sign) ∙ is_so)
