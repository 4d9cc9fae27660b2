-- What emits at a point, by its exits.
use Rattle.std.proofs.Common.{◌≡◌, ◌∙◌, refl, sym, ap, subst, ℕ, ◌+◌, ◌-◌, ◌≤◌, ◌==◌, ◌&&◌, ◌||◌, Bool, true, false, List, [], ◌∷◌, Contains, Option, Some, None, length, slice_index, ◌⊎◌, inl, inr, arith, suc}
use Rattle.std.proofs.lemmas.Bool.Decides.{nat_tests}
use Rattle.std.specs.List.{list_any}
use Rattle.proof_cycles.specs.Below.card_code.Rows.{row_number}
use Rattle.proof_cycles.specs.Below.card_code.declared.row.Row.{Row as CardRow}
use Rattle.proof_cycles.specs.Below.counters.Counters.{Counter, shows}
use Rattle.proof_cycles.specs.Below.hubs.declared.hub.Group.{Group}
use Rattle.proof_cycles.specs.Below.hubs.declared.hub.Hub.{Hub}
use Rattle.proof_cycles.specs.Below.hubs.declared.hub.Hub.TheVariants.{FR, SR, GX, SX, EM, CC, PX, HX, RO, SO}
use Rattle.proof_cycles.specs.Below.machine.Machine.{MachineState}
use Rattle.proof_cycles.proofs.Below.net.Rows.{is_hub-same}
use Rattle.proof_cycles.specs.Below.net.Cycles.{level_number, ordinal_number}
use Rattle.proof_cycles.specs.Below.net.HubSets.{is_hub}
use Rattle.proof_cycles.specs.Below.net.declared.cycle.Cycle.{Cycle}
use Rattle.proof_cycles.specs.Below.net.declared.cycle.Cycle.TheVariants.{RunIn, Card, Prog, Head}
use Rattle.proof_cycles.specs.Below.net.declared.cycle.Point.{Point}
use Rattle.proof_cycles.specs.Below.net.declared.cycle.Point.TheVariants.{C, Row}
use Rattle.print_unit.specs.Emitters.{emitter_of, emits_row, emitters_emit}
use Rattle.proof_cycles.specs.Below.stations.Punches.{is_punched_at}
use Rattle.proof_cycles.specs.Below.stations.Stations.{first_emits, second_emits, stations_emits}
use Rattle.proof_cycles.specs.Below.storage_units.Storage.{StorageState, holds}
use Rattle.proof_cycles.specs.WholeCycles.WholeCycles.{control_emits, row_emits, group_reads_out, storage_reads_out}
use Rattle.proof_reports.specs.WiredPanels.Sources.{EmitsAtControl, EmitsAtRow, digit_from_units}
use Rattle.proof_reports.specs.WiredPanels.Sources.EmitsAtControl.{card as tells_card, prog as tells_prog, head as tells_head}
use Rattle.proof_reports.specs.WiredPanels.Sources.ReadsFirst.{run_in as reads_run_in, card as reads_card}
use Rattle.proof_reports.specs.WiredPanels.Sources.EmitsAtRow.{first, second, digit, column, emitter}
use Rattle.wiring_table.proofs.Below.chart_lines.ChartsWords.Listed.{any-passing}

-- the exit that emits at the control point tells of the cycle
pub told : (cycle : Cycle) (hub : Hub) → control_emits cycle hub ≡ true → EmitsAtControl cycle hub
told RunIn hub on = absurd (by on)
  where
    by : false ≡ true → ⊥
    by e = cc
told Card hub on = subst (λ h. EmitsAtControl Card h) (is_hub-same CC hub on) tells_card
told (Prog level ordinal) hub on =
    subst (λ h. EmitsAtControl (Prog level ordinal) h) (is_hub-same (PX (level_number level) (ordinal_number ordinal)) hub on)
    (tells_prog level ordinal)
told (Head heading) hub on =
    subst (λ h. EmitsAtControl (Head heading) h) (is_hub-same (HX (ordinal_number heading)) hub on) (tells_head heading)

-- a column at first reading
first_source :
    (card : Option (List ℕ)) (row : CardRow) (hub : Hub) → first_emits card row hub ≡ true
    → (c : ℕ) × (hub ≡ FR c) × (is_punched_at card row c ≡ true)
first_source card row (FR c) on = (c, refl, on)
first_source card row other on = cc

-- a column at second reading
second_source :
    (card : Option (List ℕ)) (row : CardRow) (hub : Hub) → second_emits card row hub ≡ true
    → (c : ℕ) × (hub ≡ SR c) × (is_punched_at card row c ≡ true)
second_source card row (SR c) on = (c, refl, on)
second_source card row other on = cc

-- a digit that a group shows
shown_source :
    (name : Group) (given : ℕ) (digits : List ℕ) (hub : Hub) → shows name given digits hub ≡ true
    → (position : ℕ) × (1 ≤ position) × (position ≤ length digits) × (digit_from_units digits position ≡ given) × (hub ≡ GX name position)
shown_source name given [] hub on = cc
shown_source name given (d ∷ below) hub on =
    by (d == given) (is_hub (GX name (length below + 1)) hub) refl refl on (shown_source name given below hub)
  where
    here : d ≡ given → digit_from_units (d ∷ below) (length below + 1) ≡ given
    here same =
        let none : suc (length below) - (length below + 1) ≡ 0 = omega arith in
        ap (λ k. slice_index (d ∷ below) k) none ∙ same

    deeper : ((position : ℕ) × (1 ≤ position) × (position ≤ length below) × (digit_from_units below position ≡ given) × (hub ≡ GX name position))
        → (position : ℕ) × (1 ≤ position) × (position ≤ suc (length below)) × (digit_from_units (d ∷ below) position ≡ given)
        × (hub ≡ GX name position)
    deeper (p, low, high, is, at) =
        let k : suc (length below) - p ≡ suc (length below - p) = omega (arith, low, high) in
        (p, low, omega (arith, high), ap (λ n. slice_index (d ∷ below) n) k ∙ is, at)

    by : (a b : Bool) → (d == given) ≡ a → is_hub (GX name (length below + 1)) hub ≡ b
        → ((a && b) || shows name given below hub) ≡ true
        → (shows name given below hub ≡ true → (position : ℕ) × (1 ≤ position) × (position ≤ length below)
        × (digit_from_units below position ≡ given) × (hub ≡ GX name position))
        → (position : ℕ) × (1 ≤ position) × (position ≤ suc (length below)) × (digit_from_units (d ∷ below) position ≡ given)
        × (hub ≡ GX name position)
    by true true same is any others =
        (length below + 1, omega arith, omega arith, here (grind (arith, nat_tests, same)), sym (is_hub-same (GX name (length below + 1)) hub is))
    by true false same is any others = deeper (others any)
    by false b same is any others = deeper (others any)

-- a column that a storage unit gives
stored_source :
    (pictures : Point → Hub → Bool) (row : CardRow) (storage : StorageState) (hub : Hub) → storage_reads_out pictures row storage hub ≡ true
    → (c : ℕ) × (hub ≡ SX storage.place c) × (pictures C (SO storage.place) ≡ true)
    × (holds storage row c ≡ true)
stored_source pictures row storage (SX unit c) on =
    by (pictures C (SO storage.place)) (unit == storage.place) (holds storage row c) refl refl refl on
  where
    by : (a b d : Bool) → pictures C (SO storage.place) ≡ a → (unit == storage.place) ≡ b
        → holds storage row c ≡ d → ((a && b) && d) ≡ true
        → (n : ℕ) × (SX unit c ≡ SX storage.place n) × (pictures C (SO storage.place) ≡ true)
        × (holds storage row n ≡ true)
    by true true true given same held all =
        let is : unit ≡ storage.place = grind (arith, nat_tests, same) in
        (c, ap (λ u. SX u c) is, given, held)
    by true true false given same held all = cc
    by true false d given same held all = cc
    by false b d given same held all = cc
stored_source pictures row storage other on = cc

-- the emitter of a cycle
emitter_source :
    (emitting : Option ℕ) (row : CardRow) (hub : Hub) → emits_row emitting row hub ≡ true
    → (e : ℕ) × (emitting ≡ Some e) × (hub ≡ EM e (row_number row))
emitter_source None row hub on = cc
emitter_source (Some e) row hub on = (e, refl, sym (is_hub-same (EM e (row_number row)) hub on))

-- one of four, where any of them holds
any_of : (a b c d : Bool) → (a || b || c || d) ≡ true → (a ≡ true) ⊎ ((b ≡ true) ⊎ ((c ≡ true) ⊎ (d ≡ true)))
any_of true b c d on = inl refl
any_of false true c d on = inr (inl refl)
any_of false false true d on = inr (inr (inl refl))
any_of false false false d on = inr (inr (inr on))

-- what the stations send in a cycle
station_source :
    (old : MachineState) (pictures : Point → Hub → Bool) (cycle : Cycle) (row : CardRow) (hub : Hub)
    → stations_emits old.stations cycle (Row row) hub ≡ true → EmitsAtRow old pictures cycle row hub
station_source old pictures RunIn row hub on =
    let (c, is, punched) = first_source old.stations.first row hub on in
    subst (λ h. EmitsAtRow old pictures RunIn row h) (sym is) (first c reads_run_in punched)
station_source old pictures Card row hub on =
    by (first_emits old.stations.first row hub) refl on
  where
    by : (b : Bool) → first_emits old.stations.first row hub ≡ b → (b || second_emits old.stations.second row hub) ≡ true
        → EmitsAtRow old pictures Card row hub
    by true is any =
        let (c, same, punched) = first_source old.stations.first row hub is in
        subst (λ h. EmitsAtRow old pictures Card row h) (sym same) (first c reads_card punched)
    by false is any =
        let (c, same, punched) = second_source old.stations.second row hub any in
        subst (λ h. EmitsAtRow old pictures Card row h) (sym same) (second c refl punched)
station_source old pictures (Prog level ordinal) row hub on = cc
station_source old pictures (Head heading) row hub on = cc

-- The exits that emit at a row are those that send.
pub sent :
    (old : MachineState) (pictures : Point → Hub → Bool) (cycle : Cycle) (row : CardRow) (hub : Hub)
    → row_emits old pictures cycle row hub ≡ true → EmitsAtRow old pictures cycle row hub
sent old pictures cycle row hub on =
    by (any_of (stations_emits old.stations cycle (Row row) hub)
    (list_any (λ group. group_reads_out pictures row group hub) old.groups)
    (list_any (λ storage. storage_reads_out pictures row storage hub) old.storage)
    (emitters_emit old.emitters cycle (Row row) hub) on)
  where
    shown_by : (group : Counter) → Contains old.groups group → (a b : Bool) → pictures C (RO group.name) ≡ a
        → shows group.name (row_number row) group.digits hub ≡ b → (a && b) ≡ true → EmitsAtRow old pictures cycle row hub
    shown_by group listed true true out is both =
        let (position, low, high, digit_is, same) = shown_source group.name (row_number row) group.digits hub is in
        subst (λ h. EmitsAtRow old pictures cycle row h) (sym same) (digit group position listed out low high digit_is)
    shown_by group listed true false out is both = cc
    shown_by group listed false b out is both = cc

    by : (stations_emits old.stations cycle (Row row) hub ≡ true)
        ⊎ ((list_any (λ group. group_reads_out pictures row group hub) old.groups ≡ true)
        ⊎ ((list_any (λ storage. storage_reads_out pictures row storage hub) old.storage ≡ true)
        ⊎ (emitters_emit old.emitters cycle (Row row) hub ≡ true)))
        → EmitsAtRow old pictures cycle row hub
    by (inl station) = station_source old pictures cycle row hub station
    by (inr (inl group)) =
        let f = any-passing (λ g. group_reads_out pictures row g hub) old.groups group in
        shown_by f.element f.listed _ _ refl refl f.passes
    by (inr (inr (inl storage))) =
        let f = any-passing (λ s. storage_reads_out pictures row s hub) old.storage storage in
        let (c, same, given, held) = stored_source pictures row f.element hub f.passes in
        subst (λ h. EmitsAtRow old pictures cycle row h) (sym same) (column f.element c f.listed given held)
    by (inr (inr (inr emitting))) =
        let (e, is, same) = emitter_source (emitter_of cycle) row hub emitting in
        subst (λ h. EmitsAtRow old pictures cycle row h) (sym same) (emitter e is)
