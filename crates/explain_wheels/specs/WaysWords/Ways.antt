-- Ways by which an impulse reaches a hub at a point of a cycle.
use Rattle.std.specs.Prelude.{◌≡◌, Bool, true, List, [], ◌∷◌, ◌++◌, Contains}
use Rattle.hubs.specs.declared.hub.Hub.{Hub}
use Rattle.hubs.specs.Hubs.{is_hub_in_range}
use Rattle.hubs.specs.SetupsWords.Wiring.{Wiring}
use Rattle.net.specs.Impulsed.{LeadsOn}

-- A way to a hub, hub by hub: a hub of the panel that emits, alone, or a way to a hub and then one that this hub leads on to, by a
-- wire of the setup or by a closed contact. No hub is twice on a way, so it goes round no loop.
pub data IsWay (wiring : Wiring) (exits closed : Hub → Bool) : Hub → List Hub → Type 0 where
  emitting : (hub : Hub) → is_hub_in_range hub ≡ true → exits hub ≡ true → IsWay wiring exits closed hub (hub ∷ [])
  led_on :
      (from to : Hub) (way : List Hub) → IsWay wiring exits closed from way → LeadsOn wiring closed from to
      → ¬ Contains way to → IsWay wiring exits closed to (way ++ to ∷ [])
