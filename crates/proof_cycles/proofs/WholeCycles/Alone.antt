-- Which unit alone emits at an exit at a row, and which alone closes a contact.
use Rattle.std.proofs.Common.{◌≡◌, ◌∙◌, refl, ℕ, Bool, true, false, ◌||◌, ◌==◌, ◌+◌, List, [], ◌∷◌, length, Option, Some, None}
use Rattle.std.specs.List.{list_any}
use Rattle.std.proofs.lemmas.Bool.{and_right}
use Rattle.card_code.specs.Rows.{row_number}
use Rattle.card_code.specs.declared.row.Row.{Row as CardRow}
use Rattle.counters.specs.Counters.{Counter, counter_closes, shows}
use Rattle.hubs.specs.declared.hub.Group.{Group}
use Rattle.hubs.specs.declared.hub.Hub.{Hub}
use Rattle.hubs.specs.declared.hub.Hub.TheVariants.{FR, SR, GX, PIN, PIT, SX, IX, CSD, CSZ, EM, RO}
use Rattle.net.proofs.Rows.{is_hub-same}
use Rattle.net.specs.HubSets.{is_hub}
use Rattle.net.specs.declared.cycle.Cycle.{Cycle}
use Rattle.net.specs.declared.cycle.Cycle.TheVariants.{RunIn, Card, Prog, Head}
use Rattle.net.specs.declared.cycle.Point.{Point}
use Rattle.net.specs.declared.cycle.Point.TheVariants.{C, Row, K}
use Rattle.machine.specs.Below.print_unit.Emitters.{emitter_of, emits_row}
use Rattle.machine.specs.Below.selectors.Indicate.{Latches, indicate_closes}
use Rattle.machine.specs.Below.selectors.Pilots.{pilots_closes}
use Rattle.machine.specs.Below.selectors.Splits.{split_closes}
use Rattle.machine.specs.Below.stations.Stations.{StationCards, stations_emits, first_emits, second_emits}
use Rattle.machine.specs.Below.storage_units.Storage.{StorageState}
use Rattle.machine.specs.Machine.{MachineState, closes}
use Rattle.machine.proofs.ClosedContacts.{none-of}
use Rattle.proof_cycles.specs.WholeCycles.Units.{AreAlone}
use Rattle.proof_cycles.specs.WholeCycles.WholeCycles.{group_reads_out, storage_reads_out, row_emits}
use Rattle.proof_cycles.proofs.WholeCycles.Sources.{none-any}

-- hubs that differ are not the same hub of the panel
pub differing : (one other : Hub) → (one ≡ other → ⊥) → is_hub one other ≡ false
differing one other differ = by (is_hub one other) refl
  where
    by : (same : Bool) → is_hub one other ≡ same → same ≡ false
    by true e = absurd (differ (is_hub-same one other e))
    by false e = refl

-- one of four that emit at a row
one_of_four : (b : Bool)
    → ((b || false || false || false) ≡ b) × ((false || b || false || false) ≡ b) × ((false || false || b || false) ≡ b)
one_of_four true = (refl, refl, refl)
one_of_four false = (refl, refl, refl)

-- the stations are silent at a hub of no column
stations-none : (cards : StationCards) (cycle : Cycle) (row : CardRow) (hub : Hub)
    → ((card : Option (List ℕ)) → first_emits card row hub ≡ false) → ((card : Option (List ℕ)) → second_emits card row hub ≡ false)
    → stations_emits cards cycle (Row row) hub ≡ false
stations-none cards RunIn row hub first second = first cards.first
stations-none cards Card row hub first second = let one = first cards.first in let other = second cards.second in λ i. one i || other i
stations-none cards (Prog level ordinal) row hub first second = refl
stations-none cards (Head heading) row hub first second = refl

-- the emitters are silent at a hub of no emitter
emitters-none : (emitter : Option ℕ) (row : CardRow) (hub : Hub) → ((e r : ℕ) → EM e r ≡ hub → ⊥) → emits_row emitter row hub ≡ false
emitters-none None row hub differ = refl
emitters-none (Some e) row hub differ = differing (EM e (row_number row)) hub (differ e (row_number row))

-- a group shows its digits at its own exits
shows-none : (name : Group) (given : ℕ) (digits : List ℕ) (hub : Hub) → ((position : ℕ) → GX name position ≡ hub → ⊥)
    → shows name given digits hub ≡ false
shows-none name given [] hub differ = refl
shows-none name given (digit ∷ below) hub differ =
    let here =
    and_right (digit == given) (is_hub (GX name (length below + 1)) hub)
    (differing (GX name (length below + 1)) hub (differ (length below + 1))) in
    let others = shows-none name given below hub differ in
    λ i. here i || others i

pub group-silent : (pictures : Point → Hub → Bool) (row : CardRow) (hub : Hub) (group : Counter)
    → ((position : ℕ) → GX group.name position ≡ hub → ⊥) → group_reads_out pictures row group hub ≡ false
group-silent pictures row hub group differ =
    and_right (pictures C (RO group.name)) (shows group.name (row_number row) group.digits hub)
    (shows-none group.name (row_number row) group.digits hub differ)

groups-none : (pictures : Point → Hub → Bool) (row : CardRow) (hub : Hub) (groups : List Counter)
    → ((name : Group) (position : ℕ) → GX name position ≡ hub → ⊥)
    → list_any (λ group. group_reads_out pictures row group hub) groups ≡ false
groups-none pictures row hub groups differ =
    none-any (λ (group : Counter). group_reads_out pictures row group hub) groups
    (λ group. group-silent pictures row hub group (differ group.name))

-- the groups alone emit at the exits of positions
pub at_positions : (machine : MachineState) (pictures : Point → Hub → Bool) (cycle : Cycle) (row : CardRow) (name : Group) (position : ℕ)
    → row_emits machine pictures cycle row (GX name position)
    ≡ list_any (λ group. group_reads_out pictures row group (GX name position)) machine.groups
at_positions machine pictures cycle row name position =
    let hub = GX name position in
    let stations = stations-none machine.stations cycle row hub (λ card. refl) (λ card. refl) in
    let storage = none-of machine.storage in
    let emitters = emitters-none (emitter_of cycle) row hub (λ e r is. cc) in
    (λ i. stations i || list_any (λ group. group_reads_out pictures row group hub) machine.groups || storage i || emitters i)
    ∙ (one_of_four (list_any (λ group. group_reads_out pictures row group hub) machine.groups)).1

-- the storage units alone emit at the exits of their columns
pub at_columns : (machine : MachineState) (pictures : Point → Hub → Bool) (cycle : Cycle) (row : CardRow) (number column : ℕ)
    → row_emits machine pictures cycle row (SX number column)
    ≡ list_any (λ storage. storage_reads_out pictures row storage (SX number column)) machine.storage
at_columns machine pictures cycle row number column =
    let hub = SX number column in
    let stations = stations-none machine.stations cycle row hub (λ card. refl) (λ card. refl) in
    let groups = groups-none pictures row hub machine.groups (λ name position is. cc) in
    let emitters = emitters-none (emitter_of cycle) row hub (λ e r is. cc) in
    (λ i. stations i || groups i || list_any (λ storage. storage_reads_out pictures row storage hub) machine.storage || emitters i)
    ∙ (one_of_four (list_any (λ storage. storage_reads_out pictures row storage hub) machine.storage)).2

-- the stations alone emit at the exits of card columns
stations-alone : (machine : MachineState) (pictures : Point → Hub → Bool) (cycle : Cycle) (row : CardRow) (hub : Hub)
    → ((storage : StorageState) → storage_reads_out pictures row storage hub ≡ false)
    → ((name : Group) (position : ℕ) → GX name position ≡ hub → ⊥) → ((e r : ℕ) → EM e r ≡ hub → ⊥)
    → row_emits machine pictures cycle row hub ≡ stations_emits machine.stations cycle (Row row) hub
stations-alone machine pictures cycle row hub no_storage no_group no_emitter =
    let groups = groups-none pictures row hub machine.groups no_group in
    let storage =
    none-any (λ (storage : StorageState). storage_reads_out pictures row storage hub) machine.storage no_storage in
    let emitters = emitters-none (emitter_of cycle) row hub no_emitter in
    (λ i. stations_emits machine.stations cycle (Row row) hub || groups i || storage i || emitters i)
    ∙ (one_of_four (stations_emits machine.stations cycle (Row row) hub)).0

emitters-alone : (machine : MachineState) (pictures : Point → Hub → Bool) (cycle : Cycle) (row : CardRow) (emitter exit : ℕ)
    → row_emits machine pictures cycle row (EM emitter exit) ≡ emits_row (emitter_of cycle) row (EM emitter exit)
emitters-alone machine pictures cycle row emitter exit =
    let hub = EM emitter exit in
    let stations = stations-none machine.stations cycle row hub (λ card. refl) (λ card. refl) in
    let groups = groups-none pictures row hub machine.groups (λ name position is. cc) in
    let storage = none-of machine.storage in
    λ i. stations i || groups i || storage i || emits_row (emitter_of cycle) row hub

-- the contacts of one unit, where those of the others are open
third : (groups storage pilots indicate splits : Bool) → storage ≡ false → pilots ≡ false → indicate ≡ false → splits ≡ false
    → (false || false || groups || storage || pilots || indicate || splits || false || false || false || false) ≡ groups
third true storage pilots indicate splits a b c d = refl
third false storage pilots indicate splits a b c d = rw (a, b, c, d) refl

-- the contacts of a unit that is no counter group
one_of_three : (storage groups pilots indicate splits : Bool) → storage ≡ false → groups ≡ false
    → (false || false || groups || storage || pilots || indicate || splits || false || false || false || false)
    ≡ (pilots || indicate || splits)
one_of_three storage groups true indicate splits no_storage no_group = rw (no_storage, no_group) refl
one_of_three storage groups false true splits no_storage no_group = rw (no_storage, no_group) refl
one_of_three storage groups false false true no_storage no_group = rw (no_storage, no_group) refl
one_of_three storage groups false false false no_storage no_group = rw (no_storage, no_group) refl

-- contacts that are no balance position's
no_balance : (machine : MachineState) (cycle : Cycle) (point : Point) (hub : Hub)
    → ((group : Counter) → counter_closes group cycle point hub ≡ false)
    → closes machine cycle point hub
    ≡ (pilots_closes machine.pilots cycle point hub || indicate_closes machine.indicate cycle point hub || split_closes point hub)
no_balance machine cycle point hub no_group =
    one_of_three (list_any (λ (storage : StorageState). false) machine.storage)
    (list_any (λ group. counter_closes group cycle point hub) machine.groups) (pilots_closes machine.pilots cycle point hub)
    (indicate_closes machine.indicate cycle point hub) (split_closes point hub) (none-of machine.storage)
    (none-any (λ (group : Counter). counter_closes group cycle point hub) machine.groups no_group)

-- group indication has the contacts of its own positions alone
indicate-none : (latches : Latches) (cycle : Cycle) (point : Point) (hub : Hub) → ((level position : ℕ) → IX level position ≡ hub → ⊥)
    → indicate_closes latches cycle point hub ≡ false
indicate-none latches Card point (IX level position) differ = absurd (differ level position refl)
indicate-none latches other point hub differ = refl

-- the splits have the contacts of their own exits alone
splits-none : (point : Point) (hub : Hub) → ((split : ℕ) → CSD split ≡ hub → ⊥) → ((split : ℕ) → CSZ split ≡ hub → ⊥)
    → split_closes point hub ≡ false
splits-none C hub digits zones = refl
splits-none (Row row) (CSD split) digits zones = absurd (digits split refl)
splits-none (Row row) (CSZ split) digits zones = absurd (zones split refl)
splits-none (Row row) other digits zones = refl
splits-none K hub digits zones = refl

-- one of three that have contacts
ends_alone : (b : Bool) → ((b || false || false) ≡ b) × ((false || b || false) ≡ b)
ends_alone true = (refl, refl)
ends_alone false = (refl, refl)

pilots-alone : (machine : MachineState) (cycle : Cycle) (point : Point) (hub : Hub)
    → ((group : Counter) → counter_closes group cycle point hub ≡ false) → ((level position : ℕ) → IX level position ≡ hub → ⊥)
    → ((split : ℕ) → CSD split ≡ hub → ⊥) → ((split : ℕ) → CSZ split ≡ hub → ⊥)
    → closes machine cycle point hub ≡ pilots_closes machine.pilots cycle point hub
pilots-alone machine cycle point hub no_group no_level no_digits no_zones =
    let indicate = indicate-none machine.indicate cycle point hub no_level in
    let splits = splits-none point hub no_digits no_zones in
    no_balance machine cycle point hub no_group
    ∙ (λ i. pilots_closes machine.pilots cycle point hub || indicate i || splits i)
    ∙ (ends_alone (pilots_closes machine.pilots cycle point hub)).0

indication-alone : (machine : MachineState) (cycle : Cycle) (point : Point) (level position : ℕ)
    → closes machine cycle point (IX level position) ≡ indicate_closes machine.indicate cycle point (IX level position)
indication-alone machine cycle point level position =
    let splits = splits-none point (IX level position) (λ split is. cc) (λ split is. cc) in
    no_balance machine cycle point (IX level position) (λ group. refl)
    ∙ (λ i. false || indicate_closes machine.indicate cycle point (IX level position) || splits i)
    ∙ (ends_alone (indicate_closes machine.indicate cycle point (IX level position))).1

splits-alone : (machine : MachineState) (cycle : Cycle) (point : Point) (hub : Hub)
    → ((group : Counter) → counter_closes group cycle point hub ≡ false) → pilots_closes machine.pilots cycle point hub ≡ false
    → ((level position : ℕ) → IX level position ≡ hub → ⊥) → closes machine cycle point hub ≡ split_closes point hub
splits-alone machine cycle point hub no_group no_pilot no_level =
    let indicate = indicate-none machine.indicate cycle point hub no_level in
    no_balance machine cycle point hub no_group ∙ (λ i. no_pilot i || indicate i || split_closes point hub)

pub are_alone : (machine : MachineState) → AreAlone machine
are_alone machine = record {
  first_reading = λ pictures cycle row column.
      stations-alone machine pictures cycle row (FR column) (λ storage. refl) (λ name position is. cc) (λ e r is. cc);
  second_reading = λ pictures cycle row column.
      stations-alone machine pictures cycle row (SR column) (λ storage. refl) (λ name position is. cc) (λ e r is. cc);
  emitters = emitters-alone machine;
  normal_pilots = λ cycle point pilot position.
      pilots-alone machine cycle point (PIN pilot position) (λ group. refl) (λ level p is. cc) (λ split is. cc) (λ split is. cc);
  transferred_pilots = λ cycle point pilot position.
      pilots-alone machine cycle point (PIT pilot position) (λ group. refl) (λ level p is. cc) (λ split is. cc) (λ split is. cc);
  indication = indication-alone machine;
  digit_splits = λ cycle point split. splits-alone machine cycle point (CSD split) (λ group. refl) refl (λ level p is. cc);
  zone_splits = λ cycle point split. splits-alone machine cycle point (CSZ split) (λ group. refl) refl (λ level p is. cc);
}

-- the groups alone close the contacts of their balance positions
pub at_balances : (machine : MachineState) (cycle : Cycle) (point : Point) (hub : Hub)
    → pilots_closes machine.pilots cycle point hub ≡ false → ((level position : ℕ) → IX level position ≡ hub → ⊥)
    → ((split : ℕ) → CSD split ≡ hub → ⊥) → ((split : ℕ) → CSZ split ≡ hub → ⊥)
    → closes machine cycle point hub ≡ list_any (λ group. counter_closes group cycle point hub) machine.groups
at_balances machine cycle point hub no_pilot no_level no_digits no_zones =
    third (list_any (λ group. counter_closes group cycle point hub) machine.groups)
    (list_any (λ (storage : StorageState). false) machine.storage) (pilots_closes machine.pilots cycle point hub)
    (indicate_closes machine.indicate cycle point hub) (split_closes point hub) (none-of machine.storage) no_pilot
    (indicate-none machine.indicate cycle point hub no_level) (splits-none point hub no_digits no_zones)
