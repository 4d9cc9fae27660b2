-- Impulses to the entries of comparing come from holes alone if wires lead there from brushes alone.
use Rattle.std.proofs.Common.{◌≡◌, ◌∙◌, sym, ap, subst, refl, ℕ, zero, suc, ◌+◌, ◌-◌, ◌<◌, ◌≤◌, ◌||◌, arith, Bool, true, false, ◌⊎◌, inl, inr, List, Option, Some, None, is_some, if◌then◌else◌}
use Rattle.std.proofs.lemmas.Bool.{and_from, and_right, cases_lt, false≢true, not-true, or_left, or_parts, or_right}
use Rattle.std.proofs.lemmas.Bool.Decides.{nat_tests}
use Rattle.std.proofs.lemmas.Option.{none-some}
use Rattle.std.proofs.Math.Bool.{or-false}
use Rattle.std.specs.List.{list_any}
use Rattle.std.specs.Prelude.{slice_get}
use Rattle.card_code.specs.Rows.{row_number}
use Rattle.card_code.specs.declared.row.Row.{Row as CardRow}
use Rattle.hubs.proofs.HubLemmas.{is_exit-number, number_of-SR, number_of-injective, number_of-range}
use Rattle.hubs.specs.Hubs.{is_entry_hub, number_of}
use Rattle.hubs.specs.declared.hub.Group.{Group}
use Rattle.hubs.specs.declared.hub.Hub.{Hub}
use Rattle.hubs.specs.declared.hub.Hub.TheVariants.{CA, CB, EM, FR, GX, SR}
use Rattle.counters.specs.Counters.{Counter, counter_emits, shows}
use Rattle.machine.specs.Below.print_unit.Emitters.{emits_row}
use Rattle.machine.specs.Below.storage_units.Storage.{StorageState, storage_emits}
use Rattle.machine.specs.Machine.{MachineState, closes, emits}
use Rattle.net.specs.Impulsed.{IsImpulsed}
use Rattle.net.specs.Impulsed.IsImpulsed.{emitting, led_on}
use Rattle.net.specs.Panel.{contact_of}
use Rattle.net.specs.declared.cycle.Cycle.TheVariants.{Card}
use Rattle.net.specs.declared.cycle.Point.TheVariants.{Row}
use Rattle.explain_origins.specs.Cards.{CardsStand}
use Rattle.explain_origins.specs.Holes.{column_to, first_of, hole_at, hole_in, hole_to, leads_to}
use Rattle.explain_origins.specs.Levels.{is_led_from, is_of_brushes, others_lead}
use Rattle.explain_origins.specs.declared.holes.Station.{Station}
use Rattle.explain_origins.specs.declared.holes.Station.TheVariants.{First, Second}
use Rattle.hubs.proofs.SetupsWords.WiredLemmas.{HasWire-is_wired}
use Rattle.hubs.specs.SetupsWords.Wiring.{HasWire, LeadsToEntries, Wiring, is_listed, is_wired, row_at}
use Rattle.stations.specs.Punches.{is_punched_at}
use Rattle.stations.specs.Stations.{stations_emits}
use Rattle.proof_cycles.proofs.WholeCycles.Alone.{differing, group-silent}
use Rattle.proof_cycles.proofs.WholeCycles.Sources.{none-any}
use Rattle.proof_laws.proofs.HoleLaws.Impulses.{in-card-cycle}
use Rattle.proof_laws.specs.HoleLaws.Reasons.{IsEntryOf}
use Rattle.proof_laws.specs.HoleLaws.Reasons.IsEntryOf.{first_entry, second_entry}

-- no wire leads there from an exit behind the brushes
others-none : (wiring : Wiring) (entry : Hub) (count place : ℕ) → others_lead wiring entry count ≡ false → place < count
    → is_led_from wiring entry (161 + place) ≡ false
unfolding others_lead
others-none wiring entry zero place none low = absurd (omega (arith, low))
others-none wiring entry (suc count) place none low =
    let parts = or_parts (is_led_from wiring entry (161 + count)) (others_lead wiring entry count) none in
    by parts.0 (others-none wiring entry count place parts.1) (cases_lt place count)
  where
    by : is_led_from wiring entry (161 + count) ≡ false → (place < count → is_led_from wiring entry (161 + place) ≡ false)
        → (place < count) ⊎ (count ≤ place) → is_led_from wiring entry (161 + place) ≡ false
    by here lower (inl less) = lower less
    by here lower (inr not_less) =
        let last : count ≡ place = omega (arith, low, not_less) in
        subst (λ (n : ℕ). is_led_from wiring entry (161 + n) ≡ false) last here

of-brushes : (wiring : Wiring) (entry : Hub) → is_of_brushes wiring entry ≡ true → others_lead wiring entry 880 ≡ false
unfolding is_of_brushes
of-brushes wiring entry is = not-true (others_lead wiring entry 880) is

-- a brush
abbrev IsBrush : Hub → Type 0
IsBrush hub = (column : ℕ) × (1 ≤ column) × (column ≤ 80) × ((hub ≡ FR column) ⊎ (hub ≡ SR column))

number_of-FR : (column : ℕ) → 1 ≤ column → column ≤ 80 → number_of (FR column) ≡ Some column
number_of-FR column from to = grind (arith, nat_tests)

-- the exits to 160 are brushes
low-brush : (hub : Hub) (n : ℕ) → number_of hub ≡ Some n → n ≤ 160 → IsBrush hub
low-brush hub n numbered low = by (number_of-range hub n numbered).0 (cases_lt 80 n)
  where
    by : 1 ≤ n → (80 < n) ⊎ (n ≤ 80) → IsBrush hub
    by least (inr first) = (n, least, first, inl (number_of-injective hub (FR n) n numbered (number_of-FR n least first)))
    by least (inl second) =
        let from : 1 ≤ n - 80 = omega (arith, second) in
        let to : n - 80 ≤ 80 = omega (arith, low) in
        let same : 80 + (n - 80) ≡ n = omega (arith, second) in
        (n - 80, from, to, inr (number_of-injective hub (SR (n - 80)) n numbered (number_of-SR (n - 80) from to ∙ ap Some same)))

-- the exits from which wires lead there are brushes
brushes-alone : (wiring : Wiring) (from entry : Hub) → LeadsToEntries wiring → is_of_brushes wiring entry ≡ true → HasWire wiring from entry
    → IsBrush from
brushes-alone wiring from entry leads brushes wire = by (cases_lt 160 wire.number)
  where
    by : (160 < wire.number) ⊎ (wire.number ≤ 160) → IsBrush from
    by (inr low) = low-brush from wire.number wire.numbered low
    by (inl high) =
        let most : wire.number ≤ 1040 = (is_exit-number from wire.number wire.numbered).0 (leads from entry wire).0 in
        let within : wire.number - 161 < 880 = omega (arith, high, most) in
        let none = others-none wiring entry 880 (wire.number - 161) (of-brushes wiring entry brushes) within in
        let same : 161 + (wire.number - 161) ≡ wire.number = omega (arith, high) in
        let led : is_wired wiring from entry ≡ is_led_from wiring entry wire.number =
        ap (λ (number : Option ℕ). is_listed (row_at wiring number) (number_of entry)) wire.numbered in
        absurd
        (false≢true
        (sym (subst (λ (number : ℕ). is_led_from wiring entry number ≡ false) same none)
        ∙ sym led ∙ (HasWire-is_wired wiring from entry).1 wire))

-- an impulse comes along a wire to a hub that doesn't emit and has no contact
comes-by-wire : (wiring : Wiring) (exits closed : Hub → Bool) {hub : Hub} → IsImpulsed wiring exits closed hub → contact_of hub ≡ None
    → exits hub ≡ false → (from : Hub) × IsImpulsed wiring exits closed from × HasWire wiring from hub
comes-by-wire wiring exits closed (emitting hub there sends) none silent = absurd (false≢true (sym silent ∙ sends))
comes-by-wire wiring exits closed (led_on from hub at (inl wire)) none silent = (from, at, wire)
comes-by-wire wiring exits closed (led_on from hub at (inr contact)) none silent = absurd (none-some from (sym none ∙ contact.0))

-- an exit that has no contact is impulsed only if it emits
emits-itself : (wiring : Wiring) (exits closed : Hub → Bool) {hub : Hub} → LeadsToEntries wiring → IsImpulsed wiring exits closed hub
    → contact_of hub ≡ None → is_entry_hub hub ≡ false → exits hub ≡ true
emits-itself wiring exits closed leads (emitting hub there sends) none exit = sends
emits-itself wiring exits closed leads (led_on from hub at (inl wire)) none exit =
    absurd (false≢true (sym exit ∙ (leads from hub wire).1))
emits-itself wiring exits closed leads (led_on from hub at (inr contact)) none exit = absurd (none-some from (sym none ∙ contact.0))

-- the stations alone emit at brushes while a row passes, and no unit does at entries
rest-silent : (stations groups storage emitters : Bool) → groups ≡ false → storage ≡ false → emitters ≡ false
    → (stations || false || groups || storage || false || false || false || emitters || false || false || false) ≡ stations
rest-silent true groups storage emitters a b c = refl
rest-silent false groups storage emitters a b c = rw (a, b, c) refl

module _ (now : MachineState) (row : CardRow) where
  stations-alone : (hub : Hub) → ((name : Group) (position : ℕ) → GX name position ≡ hub → ⊥) → ((e r : ℕ) → EM e r ≡ hub → ⊥)
      → ((storage : StorageState) → storage_emits storage Card (Row row) hub ≡ false)
      → emits now Card (Row row) hub ≡ stations_emits now.stations Card (Row row) hub
  stations-alone hub no_group no_emitter no_storage =
      rest-silent (stations_emits now.stations Card (Row row) hub)
      (list_any (λ group. counter_emits group Card (Row row) hub) now.groups)
      (list_any (λ storage. storage_emits storage Card (Row row) hub) now.storage) (emits_row (Some 4) row hub)
      (none-any (λ (group : Counter). counter_emits group Card (Row row) hub) now.groups
      (λ group. and_right group.controls.read_out (shows group.name (row_number row) group.digits hub)
      (group-silent (λ point other. true) row hub group (no_group group.name))))
      (none-any (λ (storage : StorageState). storage_emits storage Card (Row row) hub) now.storage no_storage)
      (differing (EM 4 (row_number row)) hub (no_emitter 4 (row_number row)))

  at-first : (column : ℕ) → emits now Card (Row row) (FR column) ≡ is_punched_at now.stations.first row column
  at-first column =
      stations-alone (FR column) (λ name position is. cc) (λ e r is. cc) (λ storage. refl)
      ∙ or-false (is_punched_at now.stations.first row column)

  at-second : (column : ℕ) → emits now Card (Row row) (SR column) ≡ is_punched_at now.stations.second row column
  at-second column = stations-alone (SR column) (λ name position is. cc) (λ e r is. cc) (λ storage. refl)

  at-entry : (position : ℕ) {entry : Hub} → IsEntryOf position entry → emits now Card (Row row) entry ≡ false
  at-entry position first_entry = stations-alone (CA position) (λ name p is. cc) (λ e r is. cc) (λ storage. refl)
  at-entry position second_entry = stations-alone (CB position) (λ name p is. cc) (λ e r is. cc) (λ storage. refl)

no-contact : (position : ℕ) {entry : Hub} → IsEntryOf position entry → contact_of entry ≡ None
no-contact position first_entry = refl
no-contact position second_entry = refl

-- a hole is found if there is one
is_some-first_of : {X : Type 0} (here there : Option X) → is_some (first_of here there) ≡ (is_some here || is_some there)
is_some-first_of (Some x) there = refl
is_some-first_of None there = refl

is_some-if : (test : Bool) (n : ℕ) → is_some (if test then Some n else None) ≡ test
is_some-if true n = refl
is_some-if false n = refl

is_some-hole_in : (station : Station) (column : Option ℕ) → is_some (hole_in station column) ≡ is_some column
is_some-hole_in station (Some column) = refl
is_some-hole_in station None = refl

column-found : (wiring : Wiring) (card : Option (List ℕ)) (station : Station) (row : CardRow) (entry : Hub) (columns column : ℕ)
    → 1 ≤ column → column ≤ columns → leads_to wiring card station row entry column ≡ true
    → is_some (column_to wiring card station row entry columns) ≡ true
column-found wiring card station row entry zero column from to leads = absurd (omega (arith, from, to))
column-found wiring card station row entry (suc columns) column from to leads =
    is_some-first_of (column_to wiring card station row entry columns)
    (if leads_to wiring card station row entry (suc columns) then Some (suc columns) else None)
    ∙ by (λ low. column-found wiring card station row entry columns column from low leads) (cases_lt columns column)
  where
    by : (column ≤ columns → is_some (column_to wiring card station row entry columns) ≡ true) → (columns < column) ⊎ (column ≤ columns)
        → (is_some (column_to wiring card station row entry columns)
        || is_some (if leads_to wiring card station row entry (suc columns) then Some (suc columns) else None))
        ≡ true
    by lower (inl high) =
        let last : column ≡ suc columns = omega (arith, high, to) in
        or_right (is_some (column_to wiring card station row entry columns)) _
        (is_some-if (leads_to wiring card station row entry (suc columns)) (suc columns)
        ∙ subst (λ (n : ℕ). leads_to wiring card station row entry n ≡ true) last leads)
    by lower (inr low) = or_left (is_some (column_to wiring card station row entry columns)) _ (lower low)

hole-found : (wiring : Wiring) (card : Option (List ℕ)) (station : Station) (row : CardRow) (entry : Hub) (column : ℕ)
    → 1 ≤ column → column ≤ 80 → leads_to wiring card station row entry column ≡ true
    → is_some (hole_at wiring card station row entry) ≡ true
hole-found wiring card station row entry column from to leads =
    is_some-hole_in station (column_to wiring card station row entry 80)
    ∙ column-found wiring card station row entry 80 column from to leads

has-some : {X : Type 0} (found : Option X) → is_some found ≡ true → (x : X) × (found ≡ Some x)
has-some (Some x) is = (x, refl)
has-some None is = absurd (false≢true is)

module _ (wiring : Wiring) (deck : List (List ℕ)) (card : ℕ) (row : CardRow) (now : MachineState) (stand : CardsStand deck (suc card) now)
    (leads : LeadsToEntries wiring) where
  Impulsed : Hub → Type 0
  Impulsed hub = IsImpulsed wiring (emits now Card (Row row)) (closes now Card (Row row)) hub

  told : Hub → Bool
  told entry = is_some (hole_to wiring deck (suc card) row entry)

  -- by a brush that emits
  told-second : (entry : Hub) (column : ℕ) → 1 ≤ column → column ≤ 80 → emits now Card (Row row) (SR column) ≡ true
      → is_wired wiring (SR column) entry ≡ true → told entry ≡ true
  unfolding told
  told-second entry column from to sends wired =
      let before : card ≡ suc card - 1 = omega arith in
      let card_is : now.stations.second ≡ slice_get deck (suc card - 1) = stand.second ∙ ap (slice_get deck) before in
      let punched : is_punched_at (slice_get deck (suc card - 1)) row column ≡ true =
      ap (λ (c : Option (List ℕ)). is_punched_at c row column) (sym card_is) ∙ sym (at-second now row column) ∙ sends in
      is_some-first_of (hole_at wiring (slice_get deck (suc card - 1)) Second row entry)
      (hole_at wiring (slice_get deck (suc card)) First row entry)
      ∙ or_left (is_some (hole_at wiring (slice_get deck (suc card - 1)) Second row entry)) _
      (hole-found wiring (slice_get deck (suc card - 1)) Second row entry column from to
      (and_from (is_punched_at (slice_get deck (suc card - 1)) row column) (is_wired wiring (SR column) entry) punched wired))

  told-first : (entry : Hub) (column : ℕ) → 1 ≤ column → column ≤ 80 → emits now Card (Row row) (FR column) ≡ true
      → is_wired wiring (FR column) entry ≡ true → told entry ≡ true
  unfolding told
  told-first entry column from to sends wired =
      let punched : is_punched_at (slice_get deck (suc card)) row column ≡ true =
      ap (λ (c : Option (List ℕ)). is_punched_at c row column) (sym stand.first) ∙ sym (at-first now row column) ∙ sends in
      is_some-first_of (hole_at wiring (slice_get deck (suc card - 1)) Second row entry)
      (hole_at wiring (slice_get deck (suc card)) First row entry)
      ∙ or_right (is_some (hole_at wiring (slice_get deck (suc card - 1)) Second row entry)) _
      (hole-found wiring (slice_get deck (suc card)) First row entry column from to
      (and_from (is_punched_at (slice_get deck (suc card)) row column) (is_wired wiring (FR column) entry) punched wired))

  told-by : (entry from : Hub) → IsBrush from → Impulsed from → HasWire wiring from entry → told entry ≡ true
  unfolding Impulsed
  told-by entry from (column, least, most, inl is) at wire =
      let sends : emits now Card (Row row) (FR column) ≡ true =
      emits-itself wiring (emits now Card (Row row)) (closes now Card (Row row)) leads (subst Impulsed is at) refl refl in
      told-first entry column least most sends
      (subst (λ (h : Hub). is_wired wiring h entry ≡ true) is ((HasWire-is_wired wiring from entry).1 wire))
  told-by entry from (column, least, most, inr is) at wire =
      let sends : emits now Card (Row row) (SR column) ≡ true =
      emits-itself wiring (emits now Card (Row row)) (closes now Card (Row row)) leads (subst Impulsed is at) refl refl in
      told-second entry column least most sends
      (subst (λ (h : Hub). is_wired wiring h entry ≡ true) is ((HasWire-is_wired wiring from entry).1 wire))

  pub hole-told : (position : ℕ) (entry : Hub) → IsEntryOf position entry → is_of_brushes wiring entry ≡ true
      → IsImpulsed wiring (emits now Card (Row row)) (closes now Card (Row row)) entry
      → is_some (hole_to wiring deck (suc card) row entry) ≡ true
  unfolding told Impulsed
  hole-told position entry is brushes at =
      let came =
      comes-by-wire wiring (emits now Card (Row row)) (closes now Card (Row row)) at (no-contact position is)
      (at-entry now row position is) in
      told-by entry came.0 (brushes-alone wiring came.0 entry leads brushes came.2) came.1 came.2

  pub hole-impulses : (entry : Hub) → is_some (hole_to wiring deck (suc card) row entry) ≡ true
      → IsImpulsed wiring (emits now Card (Row row)) (closes now Card (Row row)) entry
  hole-impulses entry is =
      let hole = has-some (hole_to wiring deck (suc card) row entry) is in
      in-card-cycle wiring deck card row entry hole.0 now stand hole.1
