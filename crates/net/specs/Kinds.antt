-- What may emit at the points of the rows of a cycle, whichever contacts are closed at its control point.
use Rattle.std.specs.Prelude.{◌≡◌, ℕ, ◌<◌, ◌||◌, Bool, true, false, Some, List}
use Rattle.hubs.specs.Hubs.{group_of, is_hub_in_range}
use Rattle.hubs.specs.declared.hub.Hub.{Hub}
use Rattle.hubs.specs.declared.hub.Hub.TheVariants.{FR, SR, GX, SX, EM, PL, RO, SI, SO}
use Rattle.hubs.specs.SetupsWords.Wiring.{Wiring}
use Rattle.net.specs.Cycles.{emitter_of}
use Rattle.net.specs.HubSets.{HubSet, has_hub, is_in_reach}
use Rattle.card_code.specs.Rows.{passing_place}
use Rattle.card_code.specs.declared.row.Row.{Row as CardRow}
use Rattle.net.specs.HubRows.{has_row_at}
use Rattle.net.specs.Impulsed.{IsImpulsed}
use Rattle.net.specs.Tells.{tells}
use Rattle.net.specs.declared.cycle.Cycle.{Cycle}
use Rattle.net.specs.declared.cycle.Cycle.TheVariants.{RunIn, Card, Prog, Head}

-- whether a card passes the first reading station
abbrev pub passes_first : Cycle → Bool
passes_first RunIn = true
passes_first Card = true
passes_first (Prog level ordinal) = false
passes_first (Head heading) = false

-- whether a card passes the second
abbrev pub passes_second : Cycle → Bool
passes_second RunIn = false
passes_second Card = true
passes_second (Prog level ordinal) = false
passes_second (Head heading) = false

-- a hub may be told in a cycle: it is impulsed at the control point for some set of closed contacts
abbrev pub MayBeTold : Wiring → Cycle → Hub → Type 0
MayBeTold wiring cycle hub = (closed : Hub → Bool) × IsImpulsed wiring (tells cycle) closed hub

-- An exit may emit at the rows: one of a reading station that a card passes, of the emitter of the cycle, or of a counter group or a storage
-- unit that may be told to read out. No other hub emits there.
abbrev pub MayEmitRows : Wiring → Cycle → Hub → Type 0
MayEmitRows wiring cycle (FR column) = passes_first cycle ≡ true
MayEmitRows wiring cycle (SR column) = passes_second cycle ≡ true
MayEmitRows wiring cycle (EM emitter row) = emitter_of cycle ≡ Some emitter
MayEmitRows wiring cycle (GX group position) = MayBeTold wiring cycle (RO group)
MayEmitRows wiring cycle (SX unit column) = MayBeTold wiring cycle (SO unit)
MayEmitRows wiring cycle other = ⊥

-- a set has each hub of the panel that may emit at the rows
abbrev pub HasEmitting : Wiring → Cycle → HubSet → Type 0
HasEmitting wiring cycle set = (hub : Hub) → is_hub_in_range hub ≡ true → MayEmitRows wiring cycle hub → has_hub set hub ≡ true

-- A set has each hub of a test that is one of the 128 from PL of the first group on, or from SI of the first storage unit on.
abbrev pub HasOrders : (Hub → Type 0) → HubSet → Type 0
HasOrders test set = (hub : Hub) → (is_in_reach (PL (group_of 3 1)) hub || is_in_reach (SI 1) hub) ≡ true → test hub → has_hub set hub ≡ true

-- A set has the exits of the emitter of a cycle.
abbrev pub HasEmitter : Cycle → HubSet → Type 0
HasEmitter cycle set =
    (emitter row : ℕ) → emitter_of cycle ≡ Some emitter → is_hub_in_range (EM emitter row) ≡ true → has_hub set (EM emitter row) ≡ true

-- A set has the exits that emit at the rows whatever was told: of the stations that a card passes, and of the emitter.
pub record HasUntold (cycle : Cycle) (set : HubSet) : Type 0 where
  pub first : passes_first cycle ≡ true → (column : ℕ) → is_hub_in_range (FR column) ≡ true → has_hub set (FR column) ≡ true
  pub second : passes_second cycle ≡ true → (column : ℕ) → is_hub_in_range (SR column) ≡ true → has_hub set (SR column) ≡ true
  pub emitter : HasEmitter cycle set

-- a set has the exits of the groups of a width, with numbers below an end, that are told to read out
abbrev pub HasGroups : ℕ → ℕ → HubSet → HubSet → Type 0
HasGroups width end told set =
    (number position : ℕ) → number < end → is_hub_in_range (GX (group_of width number) position) ≡ true
    → has_hub told (RO (group_of width number)) ≡ true → has_hub set (GX (group_of width number) position) ≡ true

-- a set has the exits of the storage units, with numbers below an end, that are told to read out
abbrev pub HasUnits : ℕ → HubSet → HubSet → Type 0
HasUnits end told set =
    (unit column : ℕ) → unit < end → is_hub_in_range (SX unit column) ≡ true → has_hub told (SO unit) ≡ true → has_hub set (SX unit column) ≡ true

-- new has what old has
abbrev pub KeepsHubs : HubSet → HubSet → Type 0
KeepsHubs old new = (hub : Hub) → has_hub old hub ≡ true → has_hub new hub ≡ true

-- only exits that may emit in the cycle have rows in the sets
abbrev pub MayHaveRows : Wiring → Cycle → List ℕ → Type 0
MayHaveRows wiring cycle sets = (row : CardRow) (hub : Hub) → has_row_at sets (passing_place row) hub ≡ true → MayEmitRows wiring cycle hub
