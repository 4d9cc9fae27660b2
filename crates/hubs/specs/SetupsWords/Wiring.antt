-- A setup of the panel: a set of wires, a set of jacks and a carriage tape.
use Rattle.std.specs.Prelude.{◌≡◌, ℕ, ◌≤◌, List, [], All, Contains, Bool, true, false, Option, Some, None, ◌⊎◌, ◌↔◌, ◌&&◌, ◌||◌, slice_index_or, nat_eq}
use Rattle.std.specs.List.{list_any}
use Rattle.hubs.specs.Carries.{do_wires_agree, keeps_carry}
use Rattle.hubs.specs.Hubs.{number_of, is_exit_hub, is_entry_hub}
use Rattle.hubs.specs.Jacks.{jack_place, is_jack_in_range, is_same_jack}
use Rattle.hubs.specs.SetupsWords.Tapes.{CarriageTape, SameTape}
use Rattle.hubs.specs.declared.hub.Hub.{Hub}
use Rattle.hubs.specs.declared.jack.Jack.{Jack}

-- What a setup holds. Read its wires and jacks through HasWire, is_plugged and HasJack alone.
pub record Wiring : Type 0 where
  pub wires : List (List ℕ)
  pub jacks : List Bool
  pub tape : CarriageTape

-- A wire leads from the exit to the entry: the entry's number stands among those at the exit's number.
pub record HasWire (wiring : Wiring) (exit entry : Hub) : Type 0 where
  pub number : ℕ
  pub to : ℕ
  pub numbered : number_of exit ≡ Some number
  pub entry_numbered : number_of entry ≡ Some to
  pub listed : Contains (slice_index_or wiring.wires number []) to

-- a wire of a setup: its exit and its entry
abbrev pub IsWireOf : Wiring → Hub × Hub → Type 0
IsWireOf wiring wire = HasWire wiring wire.0 wire.1

-- the numbers of the entries that are listed at an exit's number; none where there is no number
abbrev pub row_at : Wiring → Option ℕ → List ℕ
row_at wiring None = []
row_at wiring (Some number) = slice_index_or wiring.wires number []

-- whether a number stands in a row; what has no number stands in none
abbrev pub is_listed : List ℕ → Option ℕ → Bool
is_listed row None = false
is_listed row (Some to) = list_any (nat_eq to) row

-- whether a wire leads from the exit to the entry
abbrev pub is_wired : Wiring → Hub → Hub → Bool
is_wired wiring exit entry = is_listed (row_at wiring (number_of exit)) (number_of entry)

-- whether the jack is plugged; none out of range is
abbrev pub is_plugged : Wiring → Jack → Bool
is_plugged wiring jack = is_jack_in_range jack && slice_index_or wiring.jacks (jack_place jack) false

-- the jack is plugged
abbrev pub HasJack : Wiring → Jack → Type 0
HasJack wiring jack = is_plugged wiring jack ≡ true

-- every wire leads from an exit in range to an entry in range
abbrev pub LeadsToEntries : Wiring → Type 0
LeadsToEntries wiring =
    (exit entry : Hub) → HasWire wiring exit entry → (is_exit_hub exit ≡ true) × (is_entry_hub entry ≡ true)

-- every wire may be there as far as its own carry goes, and each two can be there together
pub record KeepsCarries (wiring : Wiring) : Type 0 where
  pub alone : (exit entry : Hub) → HasWire wiring exit entry → keeps_carry exit entry ≡ true
  pub together :
      (exit entry other next : Hub) → HasWire wiring exit entry → HasWire wiring other next
      → do_wires_agree exit entry other next ≡ true

-- a wire may be there as far as its own carry goes, and together with each that is there
pub record CanJoin (wiring : Wiring) (exit entry : Hub) : Type 0 where
  pub alone : keeps_carry exit entry ≡ true
  pub together : (other next : Hub) → HasWire wiring other next → do_wires_agree exit entry other next ≡ true

-- a set of wires that the panel can have
pub record IsLawfulWiring (wiring : Wiring) : Type 0 where
  pub leads : LeadsToEntries wiring
  pub carries : KeepsCarries wiring

-- the numbers of the entries are 1041 to 1936
abbrev pub IsEntryNumber : ℕ → Type 0
IsEntryNumber number = (1041 ≤ number) × (number ≤ 1936)

-- what stands at a number are numbers of entries
abbrev pub ListsEntries : Wiring → Type 0
ListsEntries wiring = (number : ℕ) → All IsEntryNumber (slice_index_or wiring.wires number [])

-- the wires of a setup: they are lawful, and what is listed are numbers of entries
pub record IsLawfulSetup (wiring : Wiring) : Type 0 where
  pub lawful : IsLawfulWiring wiring
  pub listed : ListsEntries wiring

-- the same wires
abbrev pub SameWires : Wiring → Wiring → Type 0
SameWires old new = (exit entry : Hub) → HasWire new exit entry ↔ HasWire old exit entry

-- the same jacks are plugged
abbrev pub SameJacks : Wiring → Wiring → Type 0
SameJacks old new = (jack : Jack) → is_plugged new jack ≡ is_plugged old jack

-- two setups are the same: the same wires, jacks and tape
pub record IsSameSetup (one other : Wiring) : Type 0 where
  pub wires : SameWires one other
  pub jacks : SameJacks one other
  pub tape : SameTape one.tape other.tape

-- new has the wires of old and the wire from this exit to this entry
abbrev pub AddsWire : Wiring → Wiring → Hub → Hub → Type 0
AddsWire old new exit entry =
    (from to : Hub) → HasWire new from to ↔ (HasWire old from to ⊎ ((from ≡ exit) × (to ≡ entry)))

-- new has the jacks of old and this jack
abbrev pub AddsJack : Wiring → Wiring → Jack → Type 0
AddsJack old new jack = (other : Jack) → is_plugged new other ≡ (is_plugged old other || is_same_jack other jack)
