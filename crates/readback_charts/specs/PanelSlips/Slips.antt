-- The wires of a panel by their numbers, and what is changed of it.
use Rattle.std.specs.Prelude.{◌≡◌, ◌++◌, ◌⊎◌, Contains, List, Some}
use Rattle.hubs.specs.Hubs.{number_of}
use Rattle.hubs.specs.declared.hub.Hub.{Hub}
use Rattle.readback_charts.specs.declared.panel_slips.toggles.Toggle.{Toggle}
use Rattle.readback_charts.specs.declared.panel_slips.toggles.Toggle.TheVariants as changes
use Rattle.readback_charts.specs.declared.panel_slips.toggles.Wire.{Wire}
use Rattle.hubs.specs.SetupsWords.Wiring.{HasWire, SameJacks, Wiring}

-- the wire leads from this exit to this entry, by their numbers
pub record IsBetween (exit entry : Hub) (wire : Wire) : Type 0 where
  pub from : number_of exit ≡ Some wire.exit
  pub to : number_of entry ≡ Some wire.entry

-- the panel has this wire
abbrev pub IsWire : Wiring → Wire → Type 0
IsWire setup wire = (exit entry : Hub) → IsBetween exit entry wire → HasWire setup exit entry

-- one wire more at most: that from this exit to this entry
pub record GainsOnly (wire : Wire) (old new : Wiring) : Type 0 where
  pub wires : (exit entry : Hub) → HasWire new exit entry → HasWire old exit entry ⊎ IsBetween exit entry wire
  pub jacks : SameJacks old new
  pub tape : new.tape ≡ old.tape

-- the wire that is put in, if one is
abbrev pub PutsIn : Toggle → Hub → Hub → Type 0
PutsIn (changes.Out wire) exit entry = ⊥
PutsIn (changes.In wire) exit entry = IsBetween exit entry wire
PutsIn (changes.Moved from to) exit entry = IsBetween exit entry to
PutsIn (changes.Jack place) exit entry = ⊥

-- a panel with one thing changed: it has no wire that the other has not, but for one that is put in, and the other's tape
pub record IsChanged (toggle : Toggle) (setup copy : Wiring) : Type 0 where
  pub wires : (exit entry : Hub) → HasWire copy exit entry → HasWire setup exit entry ⊎ PutsIn toggle exit entry
  pub tape : copy.tape ≡ setup.tape

-- it has no wire that the other has not
abbrev pub HasOnly : Wiring → Wiring → Type 0
HasOnly setup copy = (exit entry : Hub) → HasWire copy exit entry → HasWire setup exit entry

-- a change takes out a wire of a list, and puts in one that is not on it
pub record IsMoveOf (wires : List Wire) (toggle : Toggle) : Type 0 where
  pub from : Wire
  pub to : Wire
  pub is : toggle ≡ changes.Moved from to
  pub listed : Contains wires from
  pub new : ¬ Contains wires to

-- first these changes, and then others
abbrev pub BeginsWith : List Toggle → List Toggle → Type 0
BeginsWith first toggles = (others : List Toggle) × (toggles ≡ first ++ others)
