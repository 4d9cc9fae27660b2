-- Impulsed hubs. At a point of a cycle some exits emit. A hub is impulsed where it emits, or where a wire or a closed
-- contact leads to it from an impulsed hub.
use Rattle.std.specs.Prelude.{◌≡◌, Bool, true, Some, ◌⊎◌, ◌↔◌}
use Rattle.hubs.specs.declared.hub.Hub.{Hub}
use Rattle.hubs.specs.Hubs.{is_hub_in_range}
use Rattle.hubs.specs.SetupsWords.Wiring.{Wiring, HasWire}
use Rattle.net.specs.Panel.{contact_of}

-- one hub leads on to another: a wire goes there, or a contact that is closed
abbrev pub LeadsOn : Wiring → (Hub → Bool) → Hub → Hub → Type 0
LeadsOn wiring closed from to = HasWire wiring from to ⊎ ((contact_of to ≡ Some from) × (closed to ≡ true))

-- An impulsed hub is one of the panel that emits, or an impulsed hub leads on to it.
pub data IsImpulsed (wiring : Wiring) (exits closed : Hub → Bool) : Hub → Type 0 where
  emitting : (hub : Hub) → is_hub_in_range hub ≡ true → exits hub ≡ true → IsImpulsed wiring exits closed hub
  led_on :
      (from to : Hub) → IsImpulsed wiring exits closed from → LeadsOn wiring closed from to
      → IsImpulsed wiring exits closed to

-- the picture of the emitting exits: it has exactly the impulsed hubs
abbrev pub IsPicture : Wiring → (Hub → Bool) → (Hub → Bool) → (Hub → Bool) → Type 0
IsPicture wiring exits closed picture = (hub : Hub) → (picture hub ≡ true) ↔ IsImpulsed wiring exits closed hub
