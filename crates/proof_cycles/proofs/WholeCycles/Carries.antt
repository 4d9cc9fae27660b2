-- The carries of a whole cycle keep apart from all other impulses, and come to groups by their wires.
use Rattle.std.proofs.Common.{◌≡◌, ◌∙◌, ◌==◌, refl, sym, ap, inl, inr, ◌&&◌, ◌||◌, not, Bool, true, false, Some}
use Rattle.std.specs.List.{list_any}
use Rattle.std.proofs.lemmas.Bool.{and_from, and_parts, and_right, false≢true, or_cases, or_left}
use Rattle.counters.proofs.Rings.{groups-round, pairs-coupled}
use Rattle.counters.specs.Counters.{Counter, counter_closes, counter_emits, counter_number, wheels_in}
use Rattle.counters.specs.Wheels.{all_nines, carries_out}
use Rattle.hubs.specs.SetupsWords.Wiring.{HasWire}
use Rattle.hubs.specs.declared.hub.Group.{Group}
use Rattle.hubs.specs.declared.hub.Hub.{Hub}
use Rattle.hubs.specs.declared.hub.Hub.TheVariants.{BAN, BAT, CI, CO}
use Rattle.net.proofs.ImpulsedLaws.{impulsed_more}
use Rattle.net.specs.HubSets.{is_hub}
use Rattle.net.specs.Impulsed.{IsImpulsed}
use Rattle.net.specs.Impulsed.IsImpulsed.{emitting, led_on}
use Rattle.net.specs.Panel.{contact_of, unit_of}
use Rattle.net.specs.declared.cycle.Cycle.{Cycle}
use Rattle.net.specs.declared.cycle.Point.{Point}
use Rattle.net.specs.declared.cycle.Point.TheVariants.{K}
use Rattle.machine.specs.Below.selectors.Indicate.{indicate_closes}
use Rattle.machine.specs.Below.selectors.Pilots.{pilots_closes}
use Rattle.machine.specs.Below.selectors.Splits.{splits_closes}
use Rattle.machine.specs.Below.storage_units.Storage.{StorageState}
use Rattle.machine.specs.Machine.{MachineState, closes}
use Rattle.proof_cycles.specs.WholeCycles.Carries.{CarriesComeByWires, CarriesKeepApart, CarriesWaitForTheClosingPoint, but_carries, is_carry}
use Rattle.proof_cycles.specs.WholeCycles.WholeCycles.{all_closing_emits, before_closing, carry_emits, closing_closes, closing_emits}
use Rattle.proof_cycles.proofs.WholeCycles.Alone.{at_balances, differing}
use Rattle.proof_cycles.proofs.WholeCycles.Emitted.{any-changed}
use Rattle.proof_cycles.proofs.WholeCycles.Sources.{none-any}
use Rattle.proof_cycles.proofs.WholeCycles.Units.{units-by_name}

-- no carry exit is a hub that is no carry's
carry-apart : (name : Group) (hub : Hub) → is_carry hub ≡ false → is_hub (CO name) hub ≡ false
carry-apart name hub none = differing (CO name) hub (λ same. absurd (false≢true (sym none ∙ ap is_carry (sym same))))

no-carries : (old : MachineState) (pictures : Point → Hub → Bool) (cycle : Cycle) (hub : Hub) → is_carry hub ≡ false
    → carry_emits old pictures cycle hub ≡ false
no-carries old pictures cycle hub none =
    none-any (λ (group : Counter). counter_emits (before_closing cycle pictures group) cycle K hub) old.groups
    (λ group. and_right (carries_out (wheels_in (before_closing cycle pictures group)) false) (is_hub (CO group.name) hub)
    (carry-apart group.name hub none))

-- the other contacts stand
others-stand : (old : MachineState) (pictures : Point → Hub → Bool) (cycle : Cycle) (hub : Hub) → is_carry hub ≡ false
    → closing_closes old pictures cycle hub ≡ closes old cycle K hub
others-stand old pictures cycle hub none =
    let groups = any-changed (λ (group : Counter). counter_closes group cycle K hub) (λ (group : Counter). counter_closes group cycle K hub)
    (before_closing cycle pictures) (λ group. by hub none group) old.groups in
    λ i. false || false || groups i || list_any (λ (storage : StorageState). false) old.storage || pilots_closes old.pilots cycle K hub
    || indicate_closes old.indicate cycle K hub || splits_closes old.splits cycle K hub || false || false || false || false
  where
    by : (hub : Hub) → is_carry hub ≡ false → (group : Counter)
        → counter_closes (before_closing cycle pictures group) cycle K hub ≡ counter_closes group cycle K hub
    by (CO name) none group = absurd (false≢true (sym none))
    by (BAN name position) none group = refl
    by (BAT name position) none group = refl
    by other none group = refl

pub carries-apart : CarriesKeepApart
carries-apart wiring old pictures cycle lead is hub none =
    (λ on. to ((is hub).0 on) none, λ at. (is hub).1 (impulsed_more wiring _ _ _ _ more also at))
  where
    more : (h : Hub) → closing_emits pictures cycle h ≡ true → all_closing_emits old pictures cycle h ≡ true
    more h emits = or_left (closing_emits pictures cycle h) _ emits

    also : (h : Hub) → but_carries (closes old cycle K) h ≡ true → closing_closes old pictures cycle h ≡ true
    also h shut = by (is_carry h) refl (and_parts (not (is_carry h)) (closes old cycle K h) shut)
      where
        by : (carry : Bool) → is_carry h ≡ carry → (not carry ≡ true) × (closes old cycle K h ≡ true) → closing_closes old pictures cycle h ≡ true
        by true e both = absurd (false≢true both.0)
        by false e both = others-stand old pictures cycle h e ∙ both.1

    contact-apart : (from to : Hub) → contact_of to ≡ Some from → is_carry to ≡ false → is_carry from ≡ false
    contact-apart from (CO name) contact none = absurd (false≢true (sym none))
    contact-apart from (BAN name position) contact none = cc
    contact-apart from other contact none = cc

    wire-apart : (from to : Hub) → HasWire wiring from to → is_carry to ≡ false → is_carry from ≡ false
    wire-apart from to wire none = by (is_carry from) refl
      where
        by : (carry : Bool) → is_carry from ≡ carry → carry ≡ false
        by true e = absurd (false≢true (sym none ∙ lead from to wire e))
        by false e = refl

    to : {h : Hub} → IsImpulsed wiring (all_closing_emits old pictures cycle) (closing_closes old pictures cycle) h → is_carry h ≡ false
        → IsImpulsed wiring (closing_emits pictures cycle) (but_carries (closes old cycle K)) h
    to (emitting h there emits) none =
        emitting h there (elim (or_cases (closing_emits pictures cycle h) (carry_emits old pictures cycle h) emits) [
          | inl compared ↦ compared
          | inr carried ↦ absurd (false≢true (sym (no-carries old pictures cycle h none) ∙ carried))
        ])
    to (led_on from h at (inl wire)) none = led_on from h (to at (wire-apart from h wire none)) (inl wire)
    to (led_on from h at (inr contact)) none =
        led_on from h (to at (contact-apart from h contact.0 none))
        (inr (contact.0, and_from (not (is_carry h)) (closes old cycle K h) (ap not none) (sym (others-stand old pictures cycle h none) ∙ contact.1)))

-- before the closing point the contacts of the carries are open
pub carries-wait : CarriesWaitForTheClosingPoint
carries-wait machine cycle point before name =
    at_balances machine cycle point (CO name) refl (λ level p e. cc) (λ split e. cc) (λ split e. cc)
    ∙ none-any (λ (group : Counter). counter_closes group cycle point (CO name)) machine.groups
    (λ group. ap (λ b. b && ((unit_of name == counter_number group) && all_nines (wheels_in group))) before)

-- carries come by wires
pub carries-come : CarriesComeByWires
carries-come = record {
  single = λ wiring cycle old new name whole between leads is fed.
      let group = units-by_name.groups old name between is in
      ap (λ (n : Group). whole.pictures K (CI n)) group.named
      ∙ groups-round wiring (all_closing_emits old whole.pictures cycle) (closing_closes old whole.pictures cycle) (whole.pictures K) name _
      leads whole.closing (group.carries whole.pictures cycle) fed;
  pair = λ wiring cycle old new upper lower whole between leads is also fed_above fed_below wired.
      pairs-coupled wiring (all_closing_emits old whole.pictures cycle) (closing_closes old whole.pictures cycle) (whole.pictures K) upper
      lower _ _ leads whole.closing ((units-by_name.groups old upper between is).carries whole.pictures cycle)
      ((units-by_name.groups old lower between also).carries whole.pictures cycle) fed_above fed_below wired;
}
