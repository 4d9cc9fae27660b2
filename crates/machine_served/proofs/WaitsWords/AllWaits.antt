-- What the picture of a unit's exits, with all contacts closed, tells of waiting; and words of waiting units, one after another.
use Rattle.std.proofs.Common.{◌≡◌, ◌∙◌, sym, refl, ℕ, ◌&&◌, Bool, true, inl, inr, ◌↔◌}
use Rattle.std.specs.Prelude.{◌==◌}
use Rattle.std.proofs.lemmas.Bool.{and_parts}
use Rattle.hubs.specs.declared.hub.Hub.{Hub}
use Rattle.hubs.specs.Hubs.{is_hub_in_range}
use Rattle.net.proofs.EachPicture.{impulsed_in_range}
use Rattle.net.specs.Impulsed.{IsImpulsed, IsPicture}
use Rattle.net.specs.Impulsed.IsImpulsed.{emitting, led_on}
use Rattle.net.specs.Panel.{owner_of}
use Rattle.machine_served.specs.ServedWords.Orders.{unit_count}
use Rattle.machine_served.specs.ServedWords.Units.{IsUnit}
use Rattle.machine_served.specs.ServedWords.Waits.{MayReach, WaitsFor, any_closed, is_owned_by}
use Rattle.hubs.specs.SetupsWords.Wiring.{Wiring}
use Rattle.machine_served.proofs.WaitsWords.Readers.{both_true}
use Rattle.machine_served.specs.WaitsWords.Waits.{SensesOther}

module _ (wiring : Wiring) (unit : ℕ) (exits closed picture : Hub → Bool)
    (own : (hub : Hub) → exits hub ≡ (is_hub_in_range hub && (owner_of hub == unit)))
    (all : (hub : Hub) → closed hub ≡ is_hub_in_range hub)
    (is_picture : IsPicture wiring exits closed picture) where
  -- what is impulsed may be reached
  reach : {hub : Hub} → IsImpulsed wiring exits closed hub → MayReach wiring unit hub
  reach (emitting hub there at) =
      emitting hub there (and_parts (is_hub_in_range hub) (owner_of hub == unit) (sym (own hub) ∙ at)).1
  reach (led_on from to at (inl wire)) = led_on from to (reach at) (inl wire)
  reach (led_on from to at (inr contact)) = led_on from to (reach at) (inr (contact.0, refl))

  -- and what may be reached is impulsed
  impulsed : {hub : Hub} → MayReach wiring unit hub → IsImpulsed wiring exits closed hub
  impulsed (emitting hub there at) = emitting hub there (own hub ∙ both_true _ _ there at)
  impulsed (led_on from to at (inl wire)) = led_on from to (impulsed at) (inl wire)
  impulsed (led_on from to at (inr contact)) =
      led_on from to (impulsed at)
      (inr (
        contact.0,
        all to ∙ impulsed_in_range wiring (is_owned_by unit) any_closed (led_on from to at (inr contact)),
      ))

  pub awaited : (waiting : ℕ) (bit : Bool) → (bit ≡ true) ↔ SensesOther waiting unit picture
      → (bit ≡ true) ↔ (IsUnit unit_count waiting × WaitsFor wiring waiting unit)
  awaited waiting bit senses = (
    λ at. let found = senses.0 at in (
      found.is_unit,
      record {
        another = found.another;
        entry = found.entry;
        sensed = found.sensed;
        reached = reach ((is_picture found.entry).0 found.in_set);
      },
    ),
    λ waits. senses.1 (record {
      is_unit = waits.0;
      another = waits.1.another;
      entry = waits.1.entry;
      sensed = waits.1.sensed;
      in_set = (is_picture waits.1.entry).1 (impulsed waits.1.reached);
    }),
  )
