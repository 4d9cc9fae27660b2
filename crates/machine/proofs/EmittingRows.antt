-- At the rows nothing emits but what may: groups and storage units read out only if they were told so at the control point.
use Rattle.std.proofs.Common.{◌≡◌, ◌∙◌, refl, sym, subst, inl, inr, ℕ, ◌+◌, ◌==◌, ◌&&◌, ◌||◌, Bool, true, List, [], ◌∷◌, length, map, Option, Some, None, arith}
use Rattle.std.specs.List.{list_any}
use Rattle.std.proofs.lemmas.Bool.{and_parts, false≢true, or_cases}
use Rattle.std.proofs.lemmas.Bool.Decides.{nat_tests}
use Rattle.card_code.specs.Rows.{row_number}
use Rattle.card_code.specs.declared.row.Row.{Row as CardRow}
use Rattle.counters.specs.Counters.{Counter, counter_emits, counter_sensed, shows}
use Rattle.hubs.specs.declared.hub.Group.{Group}
use Rattle.hubs.specs.declared.hub.Hub.{Hub}
use Rattle.hubs.specs.declared.hub.Hub.TheVariants.{EM, FR, GX, RO, SO, SR, SX}
use Rattle.hubs.specs.SetupsWords.Wiring.{Wiring}
use Rattle.net.proofs.ImpulsedLaws.{impulsed_more}
use Rattle.net.proofs.Rows.{is_hub-same}
use Rattle.net.specs.Cycles.{emitter_of}
use Rattle.net.specs.HubSets.{is_hub}
use Rattle.net.specs.Kinds.{MayBeTold, MayEmitRows}
use Rattle.net.specs.Tells.{tells}
use Rattle.net.specs.declared.cycle.Cycle.{Cycle}
use Rattle.net.specs.declared.cycle.Cycle.TheVariants.{RunIn, Card, Prog, Head}
use Rattle.net.specs.declared.cycle.Point.TheVariants.{C, Row}
use Rattle.print_unit.specs.Emitters.{emits_row, emitters_emit}
use Rattle.stations.specs.Stations.{StationCards, stations_emits}
use Rattle.storage_units.specs.Storage.{StorageState, storage_emits, storage_sensed}
use Rattle.machine.specs.Cycles.{PointStep, Reached}
use Rattle.machine.specs.Machine.{MachineState, closes, emits, sensed}
use Rattle.machine.proofs.AllRows.{units-emit}
use Rattle.machine.proofs.ControlPoint.{emits-told}

module _ (wiring : Wiring) (cycle : Cycle) where
  -- what the stations emit
  stations-may : (cards : StationCards) (at : CardRow) (hub : Hub) → stations_emits cards cycle (Row at) hub ≡ true → MayEmitRows wiring cycle hub
  stations-may cards at hub on = by cycle hub on where
    by : (c : Cycle) (h : Hub) → stations_emits cards c (Row at) h ≡ true → MayEmitRows wiring c h
    by RunIn (FR column) e = refl
    by RunIn other e = absurd (false≢true e)
    by Card (FR column) e = refl
    by Card (SR column) e = refl
    by Card other e = absurd (false≢true e)
    by (Prog level ordinal) h e = absurd (false≢true e)
    by (Head heading) h e = absurd (false≢true e)

  -- what an emitter emits
  emitters-may : (at : CardRow) (hub : Hub) (emitter : Option ℕ) → emitter_of cycle ≡ emitter → emits_row emitter at hub ≡ true → MayEmitRows wiring cycle hub
  emitters-may at hub None is on = absurd (false≢true on)
  emitters-may at hub (Some emitter) is on =
      subst (MayEmitRows wiring cycle) (is_hub-same (EM emitter (row_number at)) hub on) is

  module _ (picture : Hub → Bool) (told : (hub : Hub) → picture hub ≡ true → MayBeTold wiring cycle hub) (at : CardRow) (hub : Hub) where
    -- what a group shows
    shown-may : (name : Group) (digits : List ℕ) → picture (RO name) ≡ true → shows name (row_number at) digits hub ≡ true → MayEmitRows wiring cycle hub
    shown-may name [] reads on = absurd (false≢true on)
    shown-may name (digit ∷ below) reads on =
        elim (or_cases ((digit == row_number at) && is_hub (GX name (length below + 1)) hub) (shows name (row_number at) below hub) on) [
          | inl here ↦
              subst (MayEmitRows wiring cycle)
              (is_hub-same (GX name (length below + 1)) hub (and_parts (digit == row_number at) (is_hub (GX name (length below + 1)) hub) here).1)
              (told (RO name) reads)
          | inr there ↦ shown-may name below reads there
        ]

    groups-may : (groups : List Counter)
        → list_any (λ group. counter_emits group cycle (Row at) hub) (map (λ group. counter_sensed group cycle C picture) groups) ≡ true
        → MayEmitRows wiring cycle hub
    groups-may [] on = absurd (false≢true on)
    groups-may (group ∷ groups) on =
        elim (or_cases (picture (RO group.name) && shows group.name (row_number at) group.digits hub) _ on) [
          | inl here ↦
              let both = and_parts (picture (RO group.name)) (shows group.name (row_number at) group.digits hub) here in
              shown-may group.name group.digits both.0 both.1
          | inr there ↦ groups-may groups there
        ]

    -- what a storage unit reads out
    unit-may : (unit : StorageState) → storage_emits (storage_sensed unit cycle C picture) cycle (Row at) hub ≡ true → MayEmitRows wiring cycle hub
    unit-may unit on = by hub on where
      by : (h : Hub) → storage_emits (storage_sensed unit cycle C picture) cycle (Row at) h ≡ true → MayEmitRows wiring cycle h
      by (SX place column) e =
          let both = and_parts (picture (SO unit.place) && (place == unit.place)) _ e in
          let reads = and_parts (picture (SO unit.place)) (place == unit.place) both.0 in
          let same : unit.place ≡ place = number place unit.place reads.1 in
          subst (λ (n : ℕ). MayBeTold wiring cycle (SO n)) same (told (SO unit.place) reads.0)
        where
          number : (n m : ℕ) → (n == m) ≡ true → m ≡ n
          number n m e = grind (arith, nat_tests, e)
      by other e = absurd (false≢true e)

    storage-may : (units : List StorageState)
        → list_any (λ unit. storage_emits unit cycle (Row at) hub) (map (λ unit. storage_sensed unit cycle C picture) units) ≡ true
        → MayEmitRows wiring cycle hub
    storage-may [] on = absurd (false≢true on)
    storage-may (unit ∷ units) on = elim (or_cases (storage_emits (storage_sensed unit cycle C picture) cycle (Row at) hub) _ on) [
      | inl here ↦ unit-may unit here
      | inr there ↦ storage-may units there
    ]

-- so it is with all units behind the control point
pub emits-may : (wiring : Wiring) (cycle : Cycle) (start mid : MachineState) → Reached wiring cycle 1 start mid → (at : CardRow) (hub : Hub)
    → emits mid cycle (Row at) hub ≡ true → MayEmitRows wiring cycle hub
unfolding Reached
emits-may wiring cycle start mid reached at hub on = by reached.0 reached.1 reached.2 where
  by : (old : MachineState) → old ≡ start → PointStep wiring cycle C old mid → MayEmitRows wiring cycle hub
  by old same step =
      let told : (h : Hub) → step.picture h ≡ true → MayBeTold wiring cycle h =
      λ h impulsed. (
        closes old cycle C,
        impulsed_more wiring (emits old cycle C) (tells cycle) (closes old cycle C) (closes old cycle C) (λ g e. sym (emits-told old cycle g) ∙ e)
            (λ g shut. shut) ((step.is_picture h).0 impulsed),
      ) in
      let now = sensed old cycle C step.picture in
      let all = units-emit now cycle at hub ∙ subst (λ (m : MachineState). emits m cycle (Row at) hub ≡ true) step.is_new on in
      elim (or_cases ((stations_emits now.stations cycle (Row at) hub || list_any (λ group. counter_emits group cycle (Row at) hub) now.groups) || list_any (λ storage. storage_emits storage cycle (Row at) hub) now.storage) (emitters_emit now.emitters cycle (Row at) hub) all) [
        | inl most ↦ elim (or_cases (stations_emits now.stations cycle (Row at) hub || list_any (λ group. counter_emits group cycle (Row at) hub) now.groups) (list_any (λ storage. storage_emits storage cycle (Row at) hub) now.storage) most) [
          | inl more ↦ elim (or_cases (stations_emits now.stations cycle (Row at) hub) (list_any (λ group. counter_emits group cycle (Row at) hub) now.groups) more) [
            | inl stations ↦ stations-may wiring cycle now.stations at hub stations
            | inr groups ↦ groups-may wiring cycle step.picture told at hub old.groups groups
          ]
          | inr storage ↦ storage-may wiring cycle step.picture told at hub old.storage storage
        ]
        | inr emitter ↦ emitters-may wiring cycle at hub (emitter_of cycle) refl emitter
      ]
