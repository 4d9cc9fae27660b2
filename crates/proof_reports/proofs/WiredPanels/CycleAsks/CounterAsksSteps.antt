-- The control hubs of a counter group of a total in program cycles and in others: they are impulsed as what is asked of it says.
use Rattle.std.proofs.Common.{◌≡◌, ◌∙◌, refl, sym, ap, subst, ℕ, ◌<◌, ◌≤◌, ◌==◌, ◌&&◌, not, Bool, true, false, List, Some, option_map, arith, if◌then◌else◌}
use Rattle.std.proofs.lemmas.Bool.{not-true, false_from_ne_true}
use Rattle.std.proofs.lemmas.Bool.Decides.{nat_tests}
use Rattle.proof_cycles.specs.TotalsWords.CounterCycles.Acts.{Act, Held, act_controls}
use Rattle.proof_cycles.specs.TotalsWords.CounterCycles.Acts.Act.{Still, Test, Turn, Show}
use Rattle.proof_reports.specs.Below.chart_line_rules.FieldRules.Coupled.{has_sign}
use Rattle.proof_reports.specs.Below.chart_plans.PlansWords.Plans.{Lists}
use Rattle.proof_reports.specs.Below.chart_line_rules.FieldRules.Fields.{field_named}
use Rattle.proof_reports.specs.Below.chart_lines.ChartsWords.Chart.{Chart, NumbersRise}
use Rattle.proof_reports.specs.Below.chart_lines.declared.charts.statement.Field.{Field}
use Rattle.proof_reports.specs.Below.chart_lines.declared.charts.statement.SignRule.{SignRule}
use Rattle.proof_reports.specs.Below.hubs.SetupsWords.Wiring.{Wiring}
use Rattle.proof_reports.specs.Below.hubs.declared.hub.Group.{Group}
use Rattle.proof_reports.specs.Below.hubs.declared.hub.Hub.{Hub}
use Rattle.proof_reports.specs.Below.hubs.declared.hub.Hub.TheVariants.{BAT, PL, MI, RO, BT}
use Rattle.proof_reports.specs.Below.machine.Machine.{MachineState}
use Rattle.proof_cycles.specs.Below.net.Cycles.{level_number}
use Rattle.proof_cycles.specs.Below.net.declared.cycle.Cycle.{Cycle}
use Rattle.proof_cycles.specs.Below.net.declared.cycle.Cycle.TheVariants.{Prog}
use Rattle.proof_cycles.specs.Below.net.declared.cycle.ProgramLevel.{ProgramLevel}
use Rattle.proof_cycles.specs.Below.net.declared.cycle.Ordinal.TheVariants.{First, Second, Third}
use Rattle.proof_cycles.specs.Below.net.declared.cycle.Point.{Point}
use Rattle.proof_cycles.specs.Below.net.declared.cycle.Point.TheVariants.{C}
use Rattle.proof_cycles.specs.TotalsWords.Amounts.{Amount, lower, posted}
use Rattle.wiring_table.specs.Figures.{IsAmount, IsSigned}
use Rattle.proof_reports.proofs.WiredPanels.CycleAsks.AmountFacts.{has_it, total_level, under_is, under_from, signed_is, unsigned_is, signed_from, unsigned_from}
use Rattle.proof_reports.proofs.WiredPanels.Contacts.{is_set}
use Rattle.proof_reports.proofs.WiredPanels.CounterAsksContacts.{transferred_is, normal_balance}
use Rattle.proof_reports.proofs.WiredPanels.CounterAsksControls.{shut, Pluses, Minuses, ReadsOut, Tests, plus_is, minus_is, read_is, test_is}
use Rattle.proof_reports.proofs.WiredPanels.CounterAsksControls.Pluses.{card as adds_card, by_sign, up, by_latch}
use Rattle.proof_reports.proofs.WiredPanels.CounterAsksControls.Minuses.{less_by_sign, less_turned, less_by_latch}
use Rattle.proof_reports.proofs.WiredPanels.CounterAsksControls.ReadsOut.{shows_it, turns_it}
use Rattle.proof_reports.proofs.WiredPanels.CounterAsksControls.Tests.{tests_it}
use Rattle.proof_reports.proofs.WiredPanels.CounterAsksGiven.{gives_plus, gives_minus, gives_read, gives_test}
use Rattle.proof_reports.proofs.WiredPanels.CounterAsksTold.{IsUnder, IsStep, IsCardCycle}
use Rattle.proof_reports.proofs.WiredPanels.CounterUnits.{planned_unit}
use Rattle.proof_reports.specs.WiredPanels.CycleAsks.ChartAmounts.{amount_of}
use Rattle.proof_reports.specs.WiredPanels.Groups.{IsGroupOf, IsTopOf}
use Rattle.proof_reports.specs.WiredPanels.PanelCycles.{IsPanelCycle}
use Rattle.proof_reports.specs.WiredPanels.CycleAsks.CounterStates.{state_of}
use Rattle.wiring_table.proofs.Groups.{counter-given, top-serves}
use Rattle.wiring_table.specs.Parts.{top_for, top_group}
use Rattle.proof_reports.proofs.WiredPanels.CycleAsks.CounterAsksKinds.{AreTold}
use Rattle.proof_reports.proofs.WiredPanels.CycleAsks.Counters.{top_latch}

-- what is asked in the three program cycles of a level: whether it is the total's, whether a negative balance is turned, and whether a
-- total goes up, by minus or by plus
abbrev pub test_act : Bool → Act
test_act is_tested = if is_tested then Test else Still

abbrev pub turn_act : Bool → Act
turn_act is_turned = if is_turned then Turn else Still

abbrev pub show_act : (is_shown goes_up is_negative : Bool) → ℕ → Act
show_act is_shown goes_up is_negative number = if is_shown then Show else if goes_up then posted is_negative number else Still

-- a test that agrees with what is asked
agrees : (asked on : Bool) → (on ≡ true → asked ≡ true) → (asked ≡ true → on ≡ true) → on ≡ asked
agrees true true a b = refl
agrees true false a b = b refl
agrees false true a b = sym (a refl)
agrees false false a b = refl

-- the controls for what is asked, by their four hubs
abbrev AreControls : Act → (plus minus read_out test : Bool) → Type 0
AreControls act plus minus read_out test =
    ((act_controls act).plus ≡ plus) × ((act_controls act).minus ≡ minus) × ((act_controls act).read_out ≡ read_out)
    × ((act_controls act).test ≡ test)

tested_controls : (t : Bool) → AreControls (test_act t) false false false t
tested_controls true = (refl, refl, refl, refl)
tested_controls false = (refl, refl, refl, refl)

turned_controls : (t : Bool) → AreControls (turn_act t) false t t false
turned_controls true = (refl, refl, refl, refl)
turned_controls false = (refl, refl, refl, refl)

shown_controls : (e u m : Bool) (n : ℕ) → AreControls (show_act e u m n) (not e && (u && not m)) (not e && (u && m)) e false
shown_controls true u m n = (refl, refl, refl, refl)
shown_controls false true true n = (refl, refl, refl, refl)
shown_controls false true false n = (refl, refl, refl, refl)
shown_controls false false m n = (refl, refl, refl, refl)

-- tests in parts
both : (a b : Bool) → a ≡ true → b ≡ true → (a && b) ≡ true
both true b one other = other
both false b one other = cc

first : (a b : Bool) → (a && b) ≡ true → a ≡ true
first true b on = refl
first false b on = cc

second : (a b : Bool) → (a && b) ≡ true → b ≡ true
second true b on = on
second false b on = cc

not_false : (b : Bool) → b ≡ false → not b ≡ true
not_false true is = cc
not_false false is = refl

same_number : (a b : ℕ) → a ≡ b → (a == b) ≡ true
same_number a b e = grind (arith, nat_tests, e)

is_number : (a b : ℕ) → (a == b) ≡ true → a ≡ b
is_number a b e = grind (arith, nat_tests, e)

differ : (a b : ℕ) → a < b → (a == b) ≡ false
differ a b less = grind (arith, nat_tests, less)

module _ (chart : Chart) (plan : Lists) (wiring : Wiring) (rise : NumbersRise chart.lines chart.end) (old : MachineState)
    (pictures : Point → Hub → Bool) (name : List ℕ) (level : ℕ) (group : Group) (own : IsGroupOf chart.lines plan name level group)
    (top : Group) (balance : top_for chart.lines plan own.number ≡ Some top) where
  -- whether the amount is signed
  abbrev signed : Bool
  signed = has_sign (field_named chart.lines name)

  -- the amount, and what its totals hold
  abbrev amount : Amount
  amount = amount_of chart.lines plan name

  abbrev state : ℕ → Held
  state = state_of old chart.lines plan name

  -- the total's level
  some : 1 ≤ level
  some = total_level own.total

  -- a signed amount by its rule
  ruled : (field : Field) → IsAmount chart.lines name field → signed ≡ true → (rule : SignRule) × IsSigned chart.lines name rule
  ruled field is on = signed_from chart.lines name field is.named on

  pub other_controls : (cycle : Cycle) → IsPanelCycle chart plan wiring old cycle pictures → ((step : ℕ) (low : ℕ) → IsStep cycle low step → ⊥)
      → (IsCardCycle cycle → ⊥) → AreTold group top (act_controls Still) pictures
  other_controls cycle at no_step no_card = record {
    plus = false_from_ne_true _ (λ on. no_plus (plus_is chart plan wiring old cycle pictures at rise name level group own top balance on));
    minus = false_from_ne_true _ (λ on. no_minus (minus_is chart plan wiring old cycle pictures at rise name level group own top balance on));
    read_out = false_from_ne_true _ (λ on. no_read (read_is chart plan wiring old cycle pictures at rise name level group own top balance on));
    test = false_from_ne_true _ (λ on. no_test (test_is chart plan wiring old cycle pictures at rise name level group own top balance on));
  }
    where
      no_plus : Pluses chart.lines plan (shut old cycle) cycle name level → ⊥
      no_plus (adds_card is low unsigned) = no_card is
      no_plus (by_sign rule pilot is low its_sign served closed) = no_card is
      no_plus (up low is under unsigned) = no_step 3 low is
      no_plus (by_latch low rule lower is under its_sign given closed) = no_step 3 low is

      no_minus : Minuses chart.lines plan (shut old cycle) cycle name level top → ⊥
      no_minus (less_by_sign rule pilot is low its_sign served closed) = no_card is
      no_minus (less_turned rule is its_sign closed) = no_step 2 level is
      no_minus (less_by_latch low rule lower is under its_sign given closed) = no_step 3 low is

      no_read : ReadsOut chart.lines (shut old cycle) cycle name level top → ⊥
      no_read (shows_it is) = no_step 3 level is
      no_read (turns_it rule is its_sign closed) = no_step 2 level is

      no_test : Tests chart.lines cycle name level → ⊥
      no_test (tests_it rule is its_sign) = no_step 1 level is

  module _ (l : ProgramLevel) (field : Field) (is_amount : IsAmount chart.lines name field) where
    pub first_controls : IsPanelCycle chart plan wiring old (Prog l First) pictures
        → AreTold group top (act_controls (test_act (signed && (level_number l == level)))) pictures
    first_controls at = record {
      plus = false_from_ne_true _ (λ on. no_plus (plus_is chart plan wiring old (Prog l First) pictures at rise name level group own top balance on)) ∙ sym told.0;
      minus = false_from_ne_true _ (λ on. no_minus (minus_is chart plan wiring old (Prog l First) pictures at rise name level group own top balance on)) ∙ sym told.1;
      read_out = false_from_ne_true _ (λ on. no_read (read_is chart plan wiring old (Prog l First) pictures at rise name level group own top balance on)) ∙ sym told.2;
      test =
          agrees _ _ (λ on. is_tested (test_is chart plan wiring old (Prog l First) pictures at rise name level group own top balance on)) gives
          ∙ sym told.3;
    }
      where
        told : AreControls (test_act (signed && (level_number l == level))) false false false (signed && (level_number l == level))
        told = tested_controls (signed && (level_number l == level))

        no_plus : Pluses chart.lines plan (shut old (Prog l First)) (Prog l First) name level → ⊥
        no_plus (adds_card is low unsigned) = is
        no_plus (by_sign rule pilot is low its_sign served closed) = is
        no_plus (up low is under unsigned) = omega (arith, is.1)
        no_plus (by_latch low rule lower is under its_sign given closed) = omega (arith, is.1)

        no_minus : Minuses chart.lines plan (shut old (Prog l First)) (Prog l First) name level top → ⊥
        no_minus (less_by_sign rule pilot is low its_sign served closed) = is
        no_minus (less_turned rule is its_sign closed) = omega (arith, is.1)
        no_minus (less_by_latch low rule lower is under its_sign given closed) = omega (arith, is.1)

        no_read : ReadsOut chart.lines (shut old (Prog l First)) (Prog l First) name level top → ⊥
        no_read (shows_it is) = omega (arith, is.1)
        no_read (turns_it rule is its_sign closed) = omega (arith, is.1)

        is_tested : Tests chart.lines (Prog l First) name level → (signed && (level_number l == level)) ≡ true
        is_tested (tests_it rule is its_sign) =
            both signed (level_number l == level) (signed_is chart.lines name rule its_sign) (same_number (level_number l) level is.0)

        gives : (signed && (level_number l == level)) ≡ true → pictures C (BT top) ≡ true
        gives on =
            let (rule, its_sign) = ruled field is_amount (first signed (level_number l == level) on) in
            gives_test chart plan wiring old (Prog l First) pictures at rise name level group own top balance
            (tests_it rule (is_number (level_number l) level (second signed (level_number l == level) on), refl) its_sign)

    pub second_controls : IsPanelCycle chart plan wiring old (Prog l Second) pictures
        → AreTold group top (act_controls (turn_act (signed && ((level_number l == level) && is_set old top)))) pictures
    second_controls at = record {
      plus = false_from_ne_true _ (λ on. no_plus (plus_is chart plan wiring old (Prog l Second) pictures at rise name level group own top balance on)) ∙ sym told.0;
      minus =
          agrees _ _ (λ on. minus_turned (minus_is chart plan wiring old (Prog l Second) pictures at rise name level group own top balance on)) gives_it
          ∙ sym told.1;
      read_out =
          agrees _ _ (λ on. read_turned (read_is chart plan wiring old (Prog l Second) pictures at rise name level group own top balance on)) gives_out
          ∙ sym told.2;
      test = false_from_ne_true _ (λ on. no_test (test_is chart plan wiring old (Prog l Second) pictures at rise name level group own top balance on)) ∙ sym told.3;
    }
      where
        told : AreControls (turn_act (signed && ((level_number l == level) && is_set old top))) false (signed && ((level_number l == level) && is_set old top)) (signed && ((level_number l == level) && is_set old top)) false
        told = turned_controls (signed && ((level_number l == level) && is_set old top))

        latch : shut old (Prog l Second) (BAT top 1) ≡ is_set old top
        latch = transferred_is old (Prog l Second) top 1 at.between.ordered
            (planned_unit chart.lines plan own.number top at.panel.planned (top-serves chart.lines plan own.number top balance)) refl

        no_plus : Pluses chart.lines plan (shut old (Prog l Second)) (Prog l Second) name level → ⊥
        no_plus (adds_card is low unsigned) = is
        no_plus (by_sign rule pilot is low its_sign served closed) = is
        no_plus (up low is under unsigned) = omega (arith, is.1)
        no_plus (by_latch low rule lower is under its_sign given closed) = omega (arith, is.1)

        turns : (rule : SignRule) → level_number l ≡ level → IsSigned chart.lines name rule → shut old (Prog l Second) (BAT top 1) ≡ true
            → (signed && ((level_number l == level) && is_set old top)) ≡ true
        turns rule is its_sign closed =
            both signed ((level_number l == level) && is_set old top) (signed_is chart.lines name rule its_sign)
            (both (level_number l == level) (is_set old top) (same_number (level_number l) level is) (sym latch ∙ closed))

        minus_turned : Minuses chart.lines plan (shut old (Prog l Second)) (Prog l Second) name level top
            → (signed && ((level_number l == level) && is_set old top)) ≡ true
        minus_turned (less_by_sign rule pilot is low its_sign served closed) = absurd is
        minus_turned (less_turned rule is its_sign closed) = turns rule is.0 its_sign closed
        minus_turned (less_by_latch low rule lower is under its_sign given closed) = absurd (omega (arith, is.1))

        read_turned : ReadsOut chart.lines (shut old (Prog l Second)) (Prog l Second) name level top
            → (signed && ((level_number l == level) && is_set old top)) ≡ true
        read_turned (shows_it is) = absurd (omega (arith, is.1))
        read_turned (turns_it rule is its_sign closed) = turns rule is.0 its_sign closed

        no_test : Tests chart.lines (Prog l Second) name level → ⊥
        no_test (tests_it rule is its_sign) = omega (arith, is.1)

        parts : (signed && ((level_number l == level) && is_set old top)) ≡ true
            → (rule : SignRule) × IsSigned chart.lines name rule × (level_number l ≡ level) × (shut old (Prog l Second) (BAT top 1) ≡ true)
        parts on =
            let rest = second signed ((level_number l == level) && is_set old top) on in
            let (rule, its_sign) = ruled field is_amount (first signed ((level_number l == level) && is_set old top) on) in (
              rule,
              its_sign,
              is_number (level_number l) level (first (level_number l == level) (is_set old top) rest),
              latch ∙ second (level_number l == level) (is_set old top) rest,
            )

        gives_it : (signed && ((level_number l == level) && is_set old top)) ≡ true → pictures C (MI group) ≡ true
        gives_it on =
            let (rule, its_sign, is, closed) = parts on in
            gives_minus chart plan wiring old (Prog l Second) pictures at rise name level group own top balance (less_turned rule (is, refl) its_sign closed)

        gives_out : (signed && ((level_number l == level) && is_set old top)) ≡ true → pictures C (RO group) ≡ true
        gives_out on =
            let (rule, its_sign, is, closed) = parts on in
            gives_read chart plan wiring old (Prog l Second) pictures at rise name level group own top balance (turns_it rule (is, refl) its_sign closed)

    -- whether the total of the level goes up to this one, and whether by minus
    abbrev goes_up : Bool
    goes_up = amount.has (level_number l) && (lower amount.has level == level_number l)

    abbrev by_minus : Bool
    by_minus = signed && (state (level_number l)).latch

    -- a total below goes up
    up_is : (low : ℕ) → level_number l ≡ low → IsUnder chart.lines name low level → (not (level_number l == level) ≡ true) × (goes_up ≡ true)
    up_is low is under =
        let under_it : IsUnder chart.lines name (level_number l) level = subst (λ k. IsUnder chart.lines name k level) (sym is) under in (
          not_false _ (differ (level_number l) level under_it.below),
          both (amount.has (level_number l)) (lower amount.has level == level_number l)
              (has_it chart.lines plan name (level_number l) under_it.number under_it.total)
              (same_number (lower amount.has level) (level_number l) (under_is chart.lines plan name level some (level_number l) under_it)),
        )

    -- the latch of the total that goes up
    latch_is : (low : ℕ) (lower_group : Group) → IsPanelCycle chart plan wiring old (Prog l Third) pictures → level_number l ≡ low
        → IsTopOf chart.lines plan name low lower_group → (state (level_number l)).latch ≡ is_set old lower_group
    latch_is low lower_group at is given =
        ap (λ k. (state k).latch) is ∙ top_latch old chart plan name low lower_group at.panel.lawful given

    pub third_controls : IsPanelCycle chart plan wiring old (Prog l Third) pictures → (number : ℕ)
        → AreTold group top (act_controls (show_act (level_number l == level) goes_up by_minus number)) pictures
    third_controls at number = record {
      plus =
          agrees _ _ (λ on. plus_told (plus_is chart plan wiring old (Prog l Third) pictures at rise name level group own top balance on)) plus_given
          ∙ sym told.0;
      minus =
          agrees _ _ (λ on. minus_told (minus_is chart plan wiring old (Prog l Third) pictures at rise name level group own top balance on)) minus_given
          ∙ sym told.1;
      read_out =
          agrees _ _ (λ on. read_told (read_is chart plan wiring old (Prog l Third) pictures at rise name level group own top balance on)) read_given
          ∙ sym told.2;
      test = false_from_ne_true _ (λ on. no_test (test_is chart plan wiring old (Prog l Third) pictures at rise name level group own top balance on)) ∙ sym told.3;
    }
      where
        told : AreControls (show_act (level_number l == level) goes_up by_minus number)
            (not (level_number l == level) && (goes_up && not by_minus)) (not (level_number l == level) && (goes_up && by_minus))
            (level_number l == level) false
        told = shown_controls (level_number l == level) goes_up by_minus number

        three : (a b c : Bool) → a ≡ true → b ≡ true → c ≡ true → (a && (b && c)) ≡ true
        three a b c one two other = both a (b && c) one (both b c two other)

        plus_told : Pluses chart.lines plan (shut old (Prog l Third)) (Prog l Third) name level
            → (not (level_number l == level) && (goes_up && not by_minus)) ≡ true
        plus_told (adds_card is low unsigned) = absurd is
        plus_told (by_sign rule pilot is low its_sign served closed) = absurd is
        plus_told (up low is under unsigned) =
            let (apart, goes) = up_is low is.0 under in
            three _ goes_up (not by_minus) apart goes
            (not_false _ (ap (λ b. b && (state (level_number l)).latch) (unsigned_is chart.lines name unsigned)))
        plus_told (by_latch low rule lower_group is under its_sign given closed) =
            let (apart, goes) = up_is low is.0 under in
            let there = planned_unit chart.lines plan given.number lower_group at.panel.planned (top-serves chart.lines plan given.number lower_group given.served) in
            let is_reset = not-true _ (sym (normal_balance old (Prog l Third) lower_group 2 at.between.ordered there refl) ∙ closed) in
            three _ goes_up (not by_minus) apart goes
            (not_false _ (ap (λ b. b && (state (level_number l)).latch) (signed_is chart.lines name rule its_sign)
            ∙ latch_is low lower_group at is.0 given ∙ is_reset))

        minus_told : Minuses chart.lines plan (shut old (Prog l Third)) (Prog l Third) name level top
            → (not (level_number l == level) && (goes_up && by_minus)) ≡ true
        minus_told (less_by_sign rule pilot is low its_sign served closed) = absurd is
        minus_told (less_turned rule is its_sign closed) = absurd (omega (arith, is.1))
        minus_told (less_by_latch low rule lower_group is under its_sign given closed) =
            let (apart, goes) = up_is low is.0 under in
            let there = planned_unit chart.lines plan given.number lower_group at.panel.planned (top-serves chart.lines plan given.number lower_group given.served) in
            let shut_it = sym (transferred_is old (Prog l Third) lower_group 2 at.between.ordered there refl) ∙ closed in
            three _ goes_up by_minus apart goes
            (both signed (state (level_number l)).latch (signed_is chart.lines name rule its_sign)
            (latch_is low lower_group at is.0 given ∙ shut_it))

        read_told : ReadsOut chart.lines (shut old (Prog l Third)) (Prog l Third) name level top → (level_number l == level) ≡ true
        read_told (shows_it is) = same_number (level_number l) level is.0
        read_told (turns_it rule is its_sign closed) = absurd (omega (arith, is.1))

        no_test : Tests chart.lines (Prog l Third) name level → ⊥
        no_test (tests_it rule is its_sign) = omega (arith, is.1)

        read_given : (level_number l == level) ≡ true → pictures C (RO group) ≡ true
        read_given on = gives_read chart plan wiring old (Prog l Third) pictures at rise name level group own top balance
            (shows_it (is_number (level_number l) level on, refl))

        under_of : goes_up ≡ true → IsUnder chart.lines name (level_number l) level
        under_of goes =
            under_from chart.lines plan name level some (level_number l)
            (first (amount.has (level_number l)) (lower amount.has level == level_number l) goes)
            (is_number (lower amount.has level) (level_number l) (second (amount.has (level_number l)) (lower amount.has level == level_number l) goes))

        lower_of : (under : IsUnder chart.lines name (level_number l) level)
            → (lower_group : Group) × IsTopOf chart.lines plan name (level_number l) lower_group
        lower_of under =
            let (lower_counter, there) = counter-given chart.lines plan name (level_number l) under.number at.panel.planned under.total in (
              top_group lower_counter,
              record { number = under.number; total = under.total; served = ap (option_map top_group) there },
            )

        plus_given : (not (level_number l == level) && (goes_up && not by_minus)) ≡ true → pictures C (PL group) ≡ true
        plus_given on =
            let rest = second (not (level_number l == level)) (goes_up && not by_minus) on in
            let under = under_of (first goes_up (not by_minus) rest) in
            let none = not-true by_minus (second goes_up (not by_minus) rest) in
            gives_plus chart plan wiring old (Prog l Third) pictures at rise name level group own top balance (by under signed refl none)
          where
            by : IsUnder chart.lines name (level_number l) level → (b : Bool) → signed ≡ b → (b && (state (level_number l)).latch) ≡ false
                → Pluses chart.lines plan (shut old (Prog l Third)) (Prog l Third) name level
            by under false is none = up (level_number l) (refl, refl) under (unsigned_from chart.lines name field is_amount is)
            by under true is none =
                let (rule, its_sign) = ruled field is_amount is in
                let (lower_group, given) = lower_of under in
                let there = planned_unit chart.lines plan given.number lower_group at.panel.planned (top-serves chart.lines plan given.number lower_group given.served) in
                by_latch (level_number l) rule lower_group (refl, refl) under its_sign given
                (normal_balance old (Prog l Third) lower_group 2 at.between.ordered there refl
                ∙ ap not (sym (latch_is (level_number l) lower_group at refl given) ∙ none))

        minus_given : (not (level_number l == level) && (goes_up && by_minus)) ≡ true → pictures C (MI group) ≡ true
        minus_given on =
            let rest = second (not (level_number l == level)) (goes_up && by_minus) on in
            let under = under_of (first goes_up by_minus rest) in
            let is = second goes_up by_minus rest in
            let (rule, its_sign) = ruled field is_amount (first signed (state (level_number l)).latch is) in
            let (lower_group, given) = lower_of under in
            let there = planned_unit chart.lines plan given.number lower_group at.panel.planned (top-serves chart.lines plan given.number lower_group given.served) in
            gives_minus chart plan wiring old (Prog l Third) pictures at rise name level group own top balance
            (less_by_latch (level_number l) rule lower_group (refl, refl) under its_sign given
            (transferred_is old (Prog l Third) lower_group 2 at.between.ordered there refl
            ∙ sym (latch_is (level_number l) lower_group at refl given) ∙ second signed (state (level_number l)).latch is))
