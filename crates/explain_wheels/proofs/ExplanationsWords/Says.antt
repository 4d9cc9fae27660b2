-- What exits and contacts say, unit by unit.
use Rattle.std.proofs.Common.{◌≡◌, ◌∙◌, sym, subst, refl, ℕ, ◌+◌, ◌==◌, ◌&&◌, ◌||◌, not, Bool, true, false, ◌⊎◌, List, [], ◌∷◌, Option, Some, None, length}
use Rattle.std.specs.List.{list_any}
use Rattle.std.proofs.lemmas.Bool.{and_parts, false≢true}
use Rattle.card_code.specs.Rows.{row_number}
use Rattle.card_code.specs.declared.row.Row.{Row as CardRow}
use Rattle.hubs.specs.declared.hub.Group.{Group}
use Rattle.hubs.specs.declared.hub.Hub.{Hub}
use Rattle.hubs.specs.declared.hub.Hub.TheVariants.{FR, SR, GX, SX, EM, BAN, BAT, PIN, PIT, IX, CSD, CSZ}
use Rattle.machine.specs.Below.counters.Counters.{Counter, counter_closes, counter_number, shows}
use Rattle.net.specs.HubSets.{is_hub}
use Rattle.net.specs.Panel.{unit_of}
use Rattle.print_unit.specs.Emitters.{emits_row, emitter_of}
use Rattle.machine.specs.Below.selectors.Indicate.{indicate_closes}
use Rattle.machine.specs.Below.selectors.Pilots.{pilots_closes}
use Rattle.machine.specs.Below.selectors.Splits.{is_digit_row, split_closes}
use Rattle.machine.specs.Below.stations.Stations.{stations_emits}
use Rattle.machine.specs.Below.storage_units.Storage.{StorageState, holds}
use Rattle.machine.specs.Machine.{MachineState, closes}
use Rattle.net.proofs.Rows.{is_hub-same}
use Rattle.net.specs.Nothing.{closes_nothing}
use Rattle.net.specs.declared.cycle.Cycle.{Cycle}
use Rattle.net.specs.declared.cycle.Cycle.TheVariants.{RunIn, Card, Prog, Head}
use Rattle.net.specs.declared.cycle.Point.{Point}
use Rattle.net.specs.declared.cycle.Point.TheVariants.{Row}
use Rattle.proof_cycles.specs.WholeCycles.WholeCycles.{group_reads_out, row_emits, storage_reads_out}
use Rattle.explain_wheels.specs.ExplanationsWords.Says.{ContactSays, ExitSays, UnitsAreAsTold, shows_at}

any-none : {X : Type 0} (xs : List X) → list_any (λ (x : X). false) xs ≡ true → ⊥
any-none [] on = false≢true on
any-none (x ∷ xs) on = any-none xs on

any-weaker : {X : Type 0} (p q : X → Bool) → ((x : X) → p x ≡ true → q x ≡ true) → (xs : List X) → list_any p xs ≡ true
    → list_any q xs ≡ true
any-weaker p q weaker [] on = absurd (false≢true on)
any-weaker p q weaker (x ∷ xs) on = by (p x) (q x) (weaker x) on (any-weaker p q weaker xs)
  where
    by : (a b : Bool) → (a ≡ true → b ≡ true) → (a || list_any p xs) ≡ true → (list_any p xs ≡ true → list_any q xs ≡ true)
        → (b || list_any q xs) ≡ true
    by true true here on rest = refl
    by true false here on rest = absurd (false≢true (here refl))
    by false true here on rest = refl
    by false false here on rest = rest on

any-some : {X : Type 0} (p : X → Bool) (xs : List X) → list_any p xs ≡ true → (x : X) × (p x ≡ true)
any-some p [] on = absurd (false≢true on)
any-some {X} p (x ∷ xs) on = by (p x) refl on (any-some p xs)
  where
    by : (a : Bool) → p x ≡ a → (a || list_any p xs) ≡ true → (list_any p xs ≡ true → (y : X) × (p y ≡ true)) → (y : X) × (p y ≡ true)
    by true is on rest = (x, is)
    by false is on rest = rest on

outer : (a b c : Bool) → ((a && b) && c) ≡ true → (a && c) ≡ true
outer true true c on = on
outer true false c on = absurd (false≢true on)
outer false b c on = on

inner : (a b c : Bool) → ((a && b) && c) ≡ true → (b && c) ≡ true
inner true b c on = on
inner false b c on = absurd (false≢true on)

either : (a : Bool) → (a || false) ≡ true → a ≡ true
either true on = refl
either false on = on

is-not : (a : Bool) → not a ≡ true → a ≡ false
is-not true on = sym on
is-not false on = refl

-- The contacts, by the unit that has them.
module _ (machine : MachineState) (cycle : Cycle) (row : CardRow) where
  groups-say : (hub : Hub) → list_any (λ (group : Counter). counter_closes group cycle (Row row) hub) machine.groups ≡ true
      → ContactSays machine cycle row hub
  groups-say (BAT group position) on =
      any-weaker _ _ (λ (counter : Counter) is. outer (unit_of group == counter_number counter) _ counter.latch is) machine.groups on
  groups-say (BAN group position) on =
      any-weaker _ _ (λ (counter : Counter) is. outer (unit_of group == counter_number counter) _ (not counter.latch) is) machine.groups on
  groups-say other on = absurd (any-none machine.groups on)

  pilots-say : (hub : Hub) → pilots_closes machine.pilots cycle (Row row) hub ≡ true → ContactSays machine cycle row hub
  pilots-say (PIN pilot position) on = (and_parts _ _ on).0
  pilots-say (PIT pilot position) on = (and_parts _ _ on).0
  pilots-say other on = absurd (false≢true on)

  splits-say : (hub : Hub) → split_closes (Row row) hub ≡ true → ContactSays machine cycle row hub
  splits-say (CSD split) on = (and_parts _ _ on).0
  splits-say (CSZ split) on = is-not (is_digit_row row) (and_parts _ _ on).0
  splits-say other on = absurd (false≢true on)

indicate-say : (machine : MachineState) (cycle : Cycle) (row : CardRow) (hub : Hub)
    → indicate_closes machine.indicate cycle (Row row) hub ≡ true → ContactSays machine cycle row hub
indicate-say machine Card row (IX level position) on = (refl, (and_parts _ _ on).0)
indicate-say machine Card row other on = absurd (false≢true on)
indicate-say machine RunIn row hub on = absurd (false≢true on)
indicate-say machine (Prog level ordinal) row hub on = absurd (false≢true on)
indicate-say machine (Head heading) row hub on = absurd (false≢true on)

contacts-say : (machine : MachineState) (cycle : Cycle) (row : CardRow) (hub : Hub) → closes machine cycle (Row row) hub ≡ true
    → ContactSays machine cycle row hub
contacts-say machine cycle row hub on =
    by (list_any (λ (group : Counter). counter_closes group cycle (Row row) hub) machine.groups)
    (list_any (λ (storage : StorageState). closes_nothing storage cycle (Row row) hub) machine.storage)
    (pilots_closes machine.pilots cycle (Row row) hub) (indicate_closes machine.indicate cycle (Row row) hub) (split_closes (Row row) hub)
    (groups-say machine cycle row hub) (λ on. absurd (any-none machine.storage on)) (pilots-say machine cycle row hub)
    (indicate-say machine cycle row hub) (splits-say machine cycle row hub) on
  where
    by : (g s p i c : Bool) → (g ≡ true → ContactSays machine cycle row hub) → (s ≡ true → ContactSays machine cycle row hub)
        → (p ≡ true → ContactSays machine cycle row hub) → (i ≡ true → ContactSays machine cycle row hub)
        → (c ≡ true → ContactSays machine cycle row hub)
        → (false || false || g || s || p || i || c || false || false || false || false) ≡ true → ContactSays machine cycle row hub
    by true s p i c of_groups of_storage of_pilots of_indicate of_splits on = of_groups refl
    by false true p i c of_groups of_storage of_pilots of_indicate of_splits on = of_storage refl
    by false false true i c of_groups of_storage of_pilots of_indicate of_splits on = of_pilots refl
    by false false false true c of_groups of_storage of_pilots of_indicate of_splits on = of_indicate refl
    by false false false false true of_groups of_storage of_pilots of_indicate of_splits on = of_splits refl
    by false false false false false of_groups of_storage of_pilots of_indicate of_splits on = absurd (false≢true on)

-- an exit that shows a digit is one of the group
shown-is : (name : Group) (given : ℕ) (digits : List ℕ) (hub : Hub) → shows name given digits hub ≡ true
    → (position : ℕ) × (GX name position ≡ hub)
shown-is name given [] hub on = absurd (false≢true on)
shown-is name given (digit ∷ below) hub on =
    by (digit == given) (is_hub (GX name (length below + 1)) hub) refl on (shown-is name given below hub)
  where
    by : (a b : Bool) → is_hub (GX name (length below + 1)) hub ≡ b → ((a && b) || shows name given below hub) ≡ true
        → (shows name given below hub ≡ true → (position : ℕ) × (GX name position ≡ hub)) → (position : ℕ) × (GX name position ≡ hub)
    by true true is on rest = (length below + 1, is_hub-same (GX name (length below + 1)) hub is)
    by true false is on rest = rest on
    by false b is on rest = rest on

-- The exits, by the unit that emits.
stations-say : (machine : MachineState) (cycle : Cycle) (row : CardRow) (hub : Hub)
    → stations_emits machine.stations cycle (Row row) hub ≡ true → ExitSays machine cycle row hub
stations-say machine RunIn row (FR column) on = on
stations-say machine RunIn row other on = absurd (false≢true on)
stations-say machine Card row (FR column) on = either _ on
stations-say machine Card row (SR column) on = on
stations-say machine Card row other on = absurd (false≢true on)
stations-say machine (Prog level ordinal) row hub on = absurd (false≢true on)
stations-say machine (Head heading) row hub on = absurd (false≢true on)

module _ (machine : MachineState) (pictures : Point → Hub → Bool) (cycle : Cycle) (row : CardRow) where
  digits-say : (hub : Hub) → list_any (λ (group : Counter). group_reads_out pictures row group hub) machine.groups ≡ true
      → ExitSays machine cycle row hub
  digits-say hub on =
      let shown : shows_at machine row hub ≡ true = any-weaker _ _ (λ (group : Counter) is. (and_parts _ _ is).1) machine.groups on in
      let some = any-some _ machine.groups shown in
      let is = shown-is some.0.name (row_number row) some.0.digits hub some.1 in
      subst (λ (h : Hub). shows_at machine row h ≡ true → ExitSays machine cycle row h) is.1 (λ at. at) shown

  columns-say : (hub : Hub) → list_any (λ (storage : StorageState). storage_reads_out pictures row storage hub) machine.storage ≡ true
      → ExitSays machine cycle row hub
  columns-say (SX place column) on =
      any-weaker _ _ (λ (storage : StorageState) is. inner _ (place == storage.place) (holds storage row column) is) machine.storage on
  columns-say other on = absurd (any-none machine.storage on)

  emitters-say : (hub : Hub) → emits_row (emitter_of cycle) row hub ≡ true → ExitSays machine cycle row hub
  emitters-say hub on = by (emitter_of cycle) refl on
    where
      by : (emitter : Option ℕ) → emitter_of cycle ≡ emitter → emits_row emitter row hub ≡ true → ExitSays machine cycle row hub
      by None is on = absurd (false≢true on)
      by (Some emitter) is on =
          let own : ExitSays machine cycle row (EM emitter (row_number row)) = (is, refl) in
          subst (λ (h : Hub). ExitSays machine cycle row h) (is_hub-same (EM emitter (row_number row)) hub on) own

  exits-say : (hub : Hub) → row_emits machine pictures cycle row hub ≡ true → ExitSays machine cycle row hub
  exits-say hub on =
      by (stations_emits machine.stations cycle (Row row) hub)
      (list_any (λ (group : Counter). group_reads_out pictures row group hub) machine.groups)
      (list_any (λ (storage : StorageState). storage_reads_out pictures row storage hub) machine.storage)
      (emits_row (emitter_of cycle) row hub) (stations-say machine cycle row hub) (digits-say hub) (columns-say hub) (emitters-say hub) on
    where
      by : (a g s e : Bool) → (a ≡ true → ExitSays machine cycle row hub) → (g ≡ true → ExitSays machine cycle row hub)
          → (s ≡ true → ExitSays machine cycle row hub) → (e ≡ true → ExitSays machine cycle row hub) → (a || g || s || e) ≡ true
          → ExitSays machine cycle row hub
      by true g s e of_stations of_groups of_storage of_emitters on = of_stations refl
      by false true s e of_stations of_groups of_storage of_emitters on = of_groups refl
      by false false true e of_stations of_groups of_storage of_emitters on = of_storage refl
      by false false false true of_stations of_groups of_storage of_emitters on = of_emitters refl
      by false false false false of_stations of_groups of_storage of_emitters on = absurd (false≢true on)

pub units-say : UnitsAreAsTold
units-say = record { contacts = contacts-say; exits = exits-say }
