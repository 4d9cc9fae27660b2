-- What the impulsed hubs are as a set, that there is a picture of them, and where one wire is all that leads to a hub.
use Rattle.std.specs.Prelude.{◌≡◌, ◌↔◌, Bool, true, false, ◌⊎◌, Some}
use Rattle.hubs.specs.declared.hub.Hub.{Hub}
use Rattle.hubs.specs.Hubs.{is_hub_in_range}
use Rattle.hubs.specs.SetupsWords.Wiring.{Wiring, HasWire, LeadsToEntries}
use Rattle.net.specs.Impulsed.{IsImpulsed, IsPicture, LeadsOn}
use Rattle.net.specs.Panel.{contact_of}

-- the set has each hub of the panel that the test has
abbrev pub HoldsHubs : (Hub → Bool) → (Hub → Bool) → Type 0
HoldsHubs test set = (hub : Hub) → is_hub_in_range hub ≡ true → test hub ≡ true → set hub ≡ true

-- the set has each hub that one of its hubs leads on to, by a wire or a closed contact
abbrev pub FollowsLeads : Wiring → (Hub → Bool) → (Hub → Bool) → Type 0
FollowsLeads wiring closed set = (from to : Hub) → set from ≡ true → LeadsOn wiring closed from to → set to ≡ true

-- The impulsed hubs hold the emitting exits, hold what they lead on to, and lie within each set that does so too.
pub record IsLeastSet (wiring : Wiring) (exits closed : Hub → Bool) : Type 0 where
  pub holds : (hub : Hub) → is_hub_in_range hub ≡ true → exits hub ≡ true → IsImpulsed wiring exits closed hub
  pub follows :
      (from to : Hub) → IsImpulsed wiring exits closed from → LeadsOn wiring closed from to
      → IsImpulsed wiring exits closed to
  pub within :
      (set : Hub → Bool) → HoldsHubs exits set → FollowsLeads wiring closed set → (hub : Hub)
      → IsImpulsed wiring exits closed hub → set hub ≡ true

-- Every set of emitting exits has a picture, whatever the wires are and whichever contacts are closed.
abbrev pub ExitsHaveAPicture : Type 0
ExitsHaveAPicture =
    (wiring : Wiring) (exits closed : Hub → Bool) → (picture : Hub → Bool) × IsPicture wiring exits closed picture

-- a wire leads to the hub from an emitting exit
pub record IsFed (wiring : Wiring) (exits : Hub → Bool) (hub : Hub) : Type 0 where
  pub exit : Hub
  pub emits : exits exit ≡ true
  pub wire : HasWire wiring exit hub

-- the hub is one of the panel that emits, or a wire leads to it from an emitting exit
abbrev pub EmitsOrIsFed : Wiring → (Hub → Bool) → Hub → Type 0
EmitsOrIsFed wiring exits hub = ((is_hub_in_range hub ≡ true) × (exits hub ≡ true)) ⊎ IsFed wiring exits hub

-- no contact is closed
abbrev pub AreAllOpen : (Hub → Bool) → Type 0
AreAllOpen closed = (hub : Hub) → closed hub ≡ false

-- no hub that a contact leads from emits, or has a wire that leads to it
pub record ReachesNoContact (wiring : Wiring) (exits : Hub → Bool) : Type 0 where
  pub silent : (common hub : Hub) → contact_of hub ≡ Some common → exits common ≡ false
  pub unwired : (common hub exit : Hub) → contact_of hub ≡ Some common → HasWire wiring exit common → ⊥

-- Where no contact is reached, what emits and what wires lead to from there is the picture, whichever contacts are closed.
abbrev pub WiresMakeThePicture : Type 0
WiresMakeThePicture =
    (wiring : Wiring) (exits closed picture : Hub → Bool)
    → LeadsToEntries wiring
    → ReachesNoContact wiring exits
    → ((hub : Hub) → (picture hub ≡ true) ↔ EmitsOrIsFed wiring exits hub)
    → IsPicture wiring exits closed picture
