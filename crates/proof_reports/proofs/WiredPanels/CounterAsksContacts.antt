-- The contacts that counter groups hang on: the sign of a card by its pilot, and the balance of a group by its latch.
use Rattle.std.proofs.Common.{◌≡◌, ◌∙◌, refl, ap, ℕ, ◌+◌, ◌-◌, ◌≤◌, nat_le, ◌&&◌, not, Bool, true, false, List, Some, None, option_map, arith, if◌then◌else◌}
use Rattle.std.proofs.lemmas.Bool.Decides.{nat_tests}
use Rattle.std.specs.Prelude.{slice_index_or}
use Rattle.proof_cycles.specs.Below.card_code.CardCode.{has_row}
use Rattle.wiring_table.specs.Below.chart_rules.ValidCard.{column_of}
use Rattle.wiring_table.specs.Below.chart_lines.ChartsWords.Field.{column_of_rule}
use Rattle.wiring_table.specs.Below.chart_lines.declared.charts.statement.FieldKind.{FieldKind}
use Rattle.wiring_table.specs.Below.chart_lines.declared.charts.statement.FieldKind.TheVariants as holds
use Rattle.wiring_table.specs.Below.chart_lines.declared.charts.statement.SignRule.{SignRule}
use Rattle.wiring_table.specs.Below.chart_lines.declared.charts.statement.SignRule.TheVariants as sign
use Rattle.proof_cycles.specs.Below.hubs.Hubs.{number_of}
use Rattle.proof_cycles.specs.Below.hubs.HubTable.Places.{part_place, up_to}
use Rattle.proof_cycles.specs.Below.hubs.HubTable.Ranges.{is_within}
use Rattle.proof_cycles.specs.Below.hubs.declared.hub.Group.{Group}
use Rattle.proof_cycles.specs.Below.hubs.declared.hub.Hub.TheVariants.{BAN, BAT, PIC}
use Rattle.proof_cycles.specs.Below.machine.Fields.{AreInUnitOrder}
use Rattle.proof_cycles.specs.Below.machine.Machine.{MachineState}
use Rattle.proof_cycles.specs.Below.net.Panel.{unit_of}
use Rattle.proof_cycles.specs.Below.net.declared.cycle.Cycle.{Cycle}
use Rattle.proof_cycles.specs.Below.net.declared.cycle.Point.TheVariants.{C}
use Rattle.report_definition.specs.Amounts.{is_negated, is_negative_by}
use Rattle.proof_cycles.specs.Below.selectors.Pilots.{PilotStates, is_transferred, is_normal}
use Rattle.wiring_table.specs.Figures.{rule_of}
use Rattle.wiring_table.specs.Parts.{negative_side, positive_side}
use Rattle.proof_reports.proofs.WiredPanels.Contacts.{closes-BAT, closes-BAN, closes-PIT, closes-PIN, is_set}
use Rattle.proof_reports.proofs.WiredPanels.CounterAsksControls.{shut}

-- the panel has the pilots 1 to 16
pub pilot_within : (pilot n : ℕ) → number_of (PIC pilot 1) ≡ Some n → is_within pilot 16 ≡ true
pilot_within pilot n is = by (is_within pilot 16) refl is
  where
    by : (b : Bool) → is_within pilot 16 ≡ b
        → option_map (λ place. 1556 + place) (part_place 3 (if b then Some pilot else None) (up_to 3 1)) ≡ Some n → b ≡ true
    by true e same = refl
    by false e same = cc

-- a pilot of the panel is normal where it is not transferred
normal_is : (states : PilotStates) (pilot : ℕ) → is_within pilot 16 ≡ true → is_normal states pilot ≡ not (is_transferred states pilot)
normal_is states pilot within = by (is_within pilot 16) (slice_index_or states.transferred (pilot - 1) false) within
  where
    by : (a b : Bool) → a ≡ true → (a && not b) ≡ not (a && b)
    by true b e = refl
    by false b e = cc

-- what stands beside a test that holds
beside_true : (a : Bool) → (a && true) ≡ a
beside_true true = refl
beside_true false = refl

-- the negative side is closed where the sign says so, and the positive side where it doesn't
pub negative_closed :
    (old : MachineState) (cycle : Cycle) (card : List ℕ) (rule : SignRule) (pilot : ℕ) → AreInUnitOrder old.groups
    → is_within pilot 16 ≡ true → is_transferred old.pilots pilot ≡ has_row (column_of card (column_of_rule rule)) 11
    → shut old cycle (negative_side rule pilot 1) ≡ is_negative_by rule card
negative_closed old cycle card (sign.X column) pilot ordered within is =
    closes-PIT old cycle C pilot 1 ordered ∙ beside_true (is_transferred old.pilots pilot) ∙ is
negative_closed old cycle card (sign.NX column) pilot ordered within is =
    closes-PIN old cycle C pilot 1 ordered ∙ beside_true (is_normal old.pilots pilot) ∙ normal_is old.pilots pilot within ∙ ap not is

pub positive_closed :
    (old : MachineState) (cycle : Cycle) (card : List ℕ) (rule : SignRule) (pilot : ℕ) → AreInUnitOrder old.groups
    → is_within pilot 16 ≡ true → is_transferred old.pilots pilot ≡ has_row (column_of card (column_of_rule rule)) 11
    → shut old cycle (positive_side rule pilot 1) ≡ not (is_negative_by rule card)
positive_closed old cycle card (sign.X column) pilot ordered within is =
    closes-PIN old cycle C pilot 1 ordered ∙ beside_true (is_normal old.pilots pilot) ∙ normal_is old.pilots pilot within ∙ ap not is
positive_closed old cycle card (sign.NX column) pilot ordered within is =
    closes-PIT old cycle C pilot 1 ordered ∙ beside_true (is_transferred old.pilots pilot) ∙ is
    ∙ twice (has_row (column_of card column) 11)
  where
    twice : (b : Bool) → b ≡ not (not b)
    twice true = refl
    twice false = refl

-- an amount is negated by its rule
pub negated_is : (kind : FieldKind) (rule : SignRule) (card : List ℕ) → rule_of kind ≡ Some rule
    → is_negated kind card ≡ is_negative_by rule card
negated_is holds.Text rule card is = cc
negated_is (holds.Amount decimals None) rule card is = cc
negated_is (holds.Amount decimals (Some its)) rule card is =
    let same : its ≡ rule = cc in ap (λ r. is_negative_by r card) same

-- the balance contacts of a group, by its latch
pub transferred_is : (old : MachineState) (cycle : Cycle) (group : Group) (position : ℕ) → AreInUnitOrder old.groups
    → 3 ≤ unit_of group → is_within position 4 ≡ true → shut old cycle (BAT group position) ≡ is_set old group
transferred_is old cycle group position ordered there within =
    let unit : nat_le 3 (unit_of group) ≡ true = grind (arith, nat_tests, there) in
    closes-BAT old cycle C group position ordered ∙ rw (unit, within) refl

pub normal_balance : (old : MachineState) (cycle : Cycle) (group : Group) (position : ℕ) → AreInUnitOrder old.groups
    → 3 ≤ unit_of group → is_within position 4 ≡ true → shut old cycle (BAN group position) ≡ not (is_set old group)
normal_balance old cycle group position ordered there within =
    let unit : nat_le 3 (unit_of group) ≡ true = grind (arith, nat_tests, there) in
    closes-BAN old cycle C group position ordered ∙ rw (unit, within) refl
