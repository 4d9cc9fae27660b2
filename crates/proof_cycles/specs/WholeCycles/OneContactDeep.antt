-- Setups in which no impulse passes two contacts: no wire leads from a contact's exit to the common hub of a contact. There
-- every way of an impulse is one of four, at the points at which no carry passes.
use Rattle.std.specs.Prelude.{◌≡◌, Bool, true, false, Some, is_some}
use Rattle.hubs.specs.Hubs.{is_hub_in_range}
use Rattle.hubs.specs.SetupsWords.Wiring.{Wiring, HasWire, LeadsToEntries}
use Rattle.hubs.specs.declared.hub.Group.{Group}
use Rattle.hubs.specs.declared.hub.Hub.{Hub}
use Rattle.hubs.specs.declared.hub.Hub.TheVariants.{CO, FR, SR, CX, GX, SX, EM, CC, PX, HX, BAC, PIC, IE, CSE}
use Rattle.net.specs.Panel.{contact_of}

-- whether a hub is the common hub of contacts, but for those of carries
abbrev pub is_common : Hub → Bool
is_common (BAC group position) = true
is_common (PIC pilot position) = true
is_common (IE level position) = true
is_common (CSE split) = true
is_common other = false

-- whether a hub is an exit at which units emit, but for carries
abbrev pub is_source : Hub → Bool
is_source (FR column) = true
is_source (SR column) = true
is_source (CX position) = true
is_source (GX group position) = true
is_source (SX unit column) = true
is_source (EM emitter row) = true
is_source CC = true
is_source (PX level cycle) = true
is_source (HX heading) = true
is_source other = false

-- Wires lead from exits to entries, and none leads from a contact's exit to a common hub.
pub record IsOneContactDeep (wiring : Wiring) : Type 0 where
  pub leads : LeadsToEntries wiring
  pub shallow : (x y : Hub) → HasWire wiring x y → is_some (contact_of x) ≡ true → is_common y ≡ true → ⊥

-- the contacts of the carries are open
abbrev pub AreCarriesOpen : (Hub → Bool) → Type 0
AreCarriesOpen closed = (group : Group) → closed (CO group) ≡ false

-- no hub emits but the exits at which units do
abbrev pub SourcesAloneEmit : (Hub → Bool) → Type 0
SourcesAloneEmit exits = (hub : Hub) → is_source hub ≡ false → exits hub ≡ false

-- no common hub emits
abbrev pub NoCommonEmits : (Hub → Bool) → Type 0
NoCommonEmits exits = (hub : Hub) → is_common hub ≡ true → exits hub ≡ false

-- The ways of an impulse to a hub: the hub emits; a wire leads there from an emitting exit; a closed contact leads there from a
-- common hub, and a wire to that from an emitting exit; or a wire leads there from the exit of such a contact.
pub data IsWithinOneContact (wiring : Wiring) (exits closed : Hub → Bool) : Hub → Type 0 where
  emits : (hub : Hub) → is_hub_in_range hub ≡ true → exits hub ≡ true → IsWithinOneContact wiring exits closed hub
  wired : (exit hub : Hub) → exits exit ≡ true → HasWire wiring exit hub → IsWithinOneContact wiring exits closed hub
  through :
      (exit common hub : Hub) → exits exit ≡ true → HasWire wiring exit common → contact_of hub ≡ Some common
      → closed hub ≡ true → IsWithinOneContact wiring exits closed hub
  after :
      (exit common contact hub : Hub) → exits exit ≡ true → HasWire wiring exit common → contact_of contact ≡ Some common
      → closed contact ≡ true → HasWire wiring contact hub → IsWithinOneContact wiring exits closed hub
