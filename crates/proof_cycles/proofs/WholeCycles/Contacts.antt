-- The ways of an impulse where no wire leads from one contact to the next.
use Rattle.std.proofs.Common.{◌≡◌, ◌∙◌, sym, ap, refl, inl, inr, Bool, true, false, Some, is_some}
use Rattle.std.proofs.lemmas.Bool.{false≢true}
use Rattle.hubs.specs.Hubs.{is_hub_in_range}
use Rattle.hubs.specs.SetupsWords.Wiring.{HasWire, Wiring}
use Rattle.hubs.specs.declared.hub.Hub.{Hub}
use Rattle.hubs.specs.declared.hub.Hub.TheVariants.{BAN, BAC, CO, PIC, IE, CSE}
use Rattle.net.specs.Impulsed.{IsImpulsed}
use Rattle.net.specs.Impulsed.IsImpulsed.{emitting, led_on}
use Rattle.net.specs.Panel.{contact_of}
use Rattle.net.proofs.ImpulsedLaws.{no_exit_is_entry}
use Rattle.proof_cycles.specs.WholeCycles.Laws.{ContactsAreOneDeep}
use Rattle.proof_cycles.specs.WholeCycles.OneContactDeep.{is_common, AreCarriesOpen, IsOneContactDeep, IsWithinOneContact, NoCommonEmits}
use Rattle.proof_cycles.specs.WholeCycles.OneContactDeep.IsWithinOneContact.{emits, wired, through, after}

-- a contact that is closed leads from a common hub, where no carry passes
common_of : (closed : Hub → Bool) → AreCarriesOpen closed → (hub common : Hub) → contact_of hub ≡ Some common → closed hub ≡ true
    → is_common common ≡ true
common_of closed open_all (CO group) common is shut = absurd (false≢true (sym (open_all group) ∙ shut))
common_of closed open_all (BAN group position) common is shut = cc
common_of closed open_all other common is shut = cc

-- a contact's exit is no common hub
not_common : (hub common : Hub) → contact_of hub ≡ Some common → is_common hub ≡ false
not_common (BAC group position) common is = cc
not_common (PIC pilot position) common is = cc
not_common (IE level position) common is = cc
not_common (CSE split) common is = cc
not_common other common is = refl

-- where a wire leads to, no wire leads on
ends : (wiring : Wiring) (x y z : Hub) → IsOneContactDeep wiring → HasWire wiring x y → HasWire wiring y z → ⊥
ends wiring x y z deep to on = no_exit_is_entry y (deep.leads y z on).0 (deep.leads x y to).1

-- a hub with a number is in range
in_range : (wiring : Wiring) (exit entry : Hub) → HasWire wiring exit entry → is_hub_in_range exit ≡ true
in_range wiring exit entry wire = ap is_some wire.numbered

-- an impulse goes one of the four ways
within : (wiring : Wiring) (exits closed : Hub → Bool) → IsOneContactDeep wiring → NoCommonEmits exits → AreCarriesOpen closed → {hub : Hub}
    → IsImpulsed wiring exits closed hub → IsWithinOneContact wiring exits closed hub
within wiring exits closed deep silent open_all (emitting hub there at) = emits hub there at
within wiring exits closed deep silent open_all (led_on from to at (inl wire)) =
    along wire (within wiring exits closed deep silent open_all at)
  where
    along : {x y : Hub} → HasWire wiring x y → IsWithinOneContact wiring exits closed x → IsWithinOneContact wiring exits closed y
    along {x} {y} wire (emits hub there on) = wired x y on wire
    along {x} {y} wire (wired exit hub on first) = absurd (ends wiring exit x y deep first wire)
    along {x} {y} wire (through exit common hub on first leads shut) = after exit common x y on first leads shut wire
    along {x} {y} wire (after exit common contact hub on first leads shut last) = absurd (ends wiring contact x y deep last wire)
within wiring exits closed deep silent open_all (led_on from to at (inr contact)) =
    across contact (within wiring exits closed deep silent open_all at)
  where
    across : {x y : Hub} → (contact_of y ≡ Some x) × (closed y ≡ true) → IsWithinOneContact wiring exits closed x
        → IsWithinOneContact wiring exits closed y
    across {x} {y} contact (emits hub there on) = absurd (false≢true (sym (silent x (common_of closed open_all y x contact.0 contact.1)) ∙ on))
    across {x} {y} contact (wired exit hub on first) = through exit x y on first contact.0 contact.1
    across {x} {y} contact (through exit common hub on first leads shut) =
        absurd (false≢true (sym (not_common x common leads) ∙ common_of closed open_all y x contact.0 contact.1))
    across {x} {y} contact (after exit common last hub on first leads shut wire) =
        absurd (deep.shallow last x wire (ap is_some leads) (common_of closed open_all y x contact.0 contact.1))

-- what an emitting exit is wired to is impulsed
fed : (wiring : Wiring) (exits closed : Hub → Bool) (exit hub : Hub) → exits exit ≡ true → HasWire wiring exit hub
    → IsImpulsed wiring exits closed hub
fed wiring exits closed exit hub on wire =
    led_on exit hub (emitting exit (in_range wiring exit hub wire) on) (inl wire)

-- each of the four ways is one of an impulse
impulsed : (wiring : Wiring) (exits closed : Hub → Bool) → {hub : Hub} → IsWithinOneContact wiring exits closed hub
    → IsImpulsed wiring exits closed hub
impulsed wiring exits closed (emits hub there on) = emitting hub there on
impulsed wiring exits closed (wired exit hub on wire) = fed wiring exits closed exit hub on wire
impulsed wiring exits closed (through exit common hub on wire leads shut) =
    led_on common hub (fed wiring exits closed exit common on wire) (inr (leads, shut))
impulsed wiring exits closed (after exit common contact hub on wire leads shut last) =
    led_on contact hub (led_on common contact (fed wiring exits closed exit common on wire) (inr (leads, shut))) (inl last)

pub contacts-one_deep : ContactsAreOneDeep
contacts-one_deep wiring exits closed hub deep silent open_all =
    (λ at. within wiring exits closed deep silent open_all at, λ way. impulsed wiring exits closed way)
