-- Who waits for whom. A unit waits for another where an impulse from an exit of the other may reach an entry that the unit senses,
-- by wires and contacts, open ones too.
use Rattle.std.specs.Prelude.{◌≡◌, ◌≢◌, ℕ, ◌==◌, Bool, true}
use Rattle.hubs.specs.declared.hub.Hub.{Hub}
use Rattle.hubs.specs.SetupsWords.Wiring.{Wiring}
use Rattle.net.specs.Impulsed.{IsImpulsed}
use Rattle.net.specs.Panel.{owner_of, reader_of}

-- whether a hub is an exit of the unit
abbrev pub is_owned_by : ℕ → Hub → Bool
is_owned_by unit hub = owner_of hub == unit

-- Any contact may be closed.
abbrev pub any_closed : Hub → Bool
any_closed hub = true

-- an impulse from an exit of the unit may reach the hub
abbrev pub MayReach : Wiring → ℕ → Hub → Type 0
MayReach wiring unit hub = IsImpulsed wiring (is_owned_by unit) any_closed hub

-- the unit waits for the other
pub record WaitsFor (wiring : Wiring) (unit other : ℕ) : Type 0 where
  pub another : other ≢ unit
  pub entry : Hub
  pub sensed : reader_of entry ≡ unit
  pub reached : MayReach wiring other entry
