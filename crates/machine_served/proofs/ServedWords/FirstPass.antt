-- What a unit senses early is what it would sense late: on the entries that it senses, the picture of what was emitted so far is
-- the picture of all, where each exit and each contact that may reach them is there already.
use Rattle.std.proofs.Common.{◌≡◌, refl, ℕ, Bool, true, inl, inr}
use Rattle.std.proofs.lemmas.Bool.{eq-eqb}
use Rattle.hubs.specs.declared.hub.Hub.{Hub}
use Rattle.hubs.specs.SetupsWords.Wiring.{Wiring}
use Rattle.net.proofs.EachPicture.{impulsed_in_range}
use Rattle.net.specs.Impulsed.{IsImpulsed}
use Rattle.net.specs.Impulsed.IsImpulsed.{emitting, led_on}
use Rattle.net.specs.Panel.{owner_of}
use Rattle.machine_served.specs.ServedWords.Waits.{MayReach}

-- more exits and more closed contacts impulse more hubs
pub impulsed_grows :
    (wiring : Wiring) (exits closed more also : Hub → Bool) → ((hub : Hub) → exits hub ≡ true → more hub ≡ true)
    → ((hub : Hub) → closed hub ≡ true → also hub ≡ true) → {hub : Hub} → IsImpulsed wiring exits closed hub
    → IsImpulsed wiring more also hub
impulsed_grows wiring exits closed more also in_exits in_closed (emitting hub there at) =
    emitting hub there (in_exits hub at)
impulsed_grows wiring exits closed more also in_exits in_closed (led_on from to at (inl wire)) =
    led_on from to (impulsed_grows wiring exits closed more also in_exits in_closed at) (inl wire)
impulsed_grows wiring exits closed more also in_exits in_closed (led_on from to at (inr contact)) =
    led_on from to (impulsed_grows wiring exits closed more also in_exits in_closed at)
    (inr (contact.0, in_closed to contact.1))

-- a hub that may reach the entry is impulsed early where it is late
pub impulsed_early :
    (wiring : Wiring) (full closed early also : Hub → Bool) (entry : Hub)
    → ((hub : Hub) → MayReach wiring (owner_of hub) entry → full hub ≡ true → early hub ≡ true)
    → ((hub : Hub) → MayReach wiring (owner_of hub) entry → closed hub ≡ true → also hub ≡ true)
    → {hub : Hub} → IsImpulsed wiring full closed hub
    → ((unit : ℕ) → MayReach wiring unit hub → MayReach wiring unit entry) → IsImpulsed wiring early also hub
impulsed_early wiring full closed early also entry emitted came (emitting hub there at) reaches =
    let may = reaches (owner_of hub) (emitting hub there (eq-eqb (owner_of hub) (owner_of hub) refl)) in
    emitting hub there (emitted hub may at)
impulsed_early wiring full closed early also entry emitted came (led_on from to at (inl wire)) reaches =
    led_on from to
    (impulsed_early wiring full closed early also entry emitted came at
    (λ unit reach. reaches unit (led_on from to reach (inl wire))))
    (inl wire)
impulsed_early wiring full closed early also entry emitted came (led_on from to at (inr contact)) reaches =
    let there = impulsed_in_range wiring full closed (led_on from to at (inr contact)) in
    let may = reaches (owner_of to) (emitting to there (eq-eqb (owner_of to) (owner_of to) refl)) in
    led_on from to
    (impulsed_early wiring full closed early also entry emitted came at
    (λ unit reach. reaches unit (led_on from to reach (inr (contact.0, refl)))))
    (inr (contact.0, came to may contact.1))
