-- What sends at a point emits there: the other way from exits to sources.
use Rattle.std.proofs.Common.{◌≡◌, ◌∙◌, refl, sym, ap, ℕ, suc, ◌+◌, ◌-◌, ◌≤◌, ◌==◌, ◌&&◌, ◌||◌, Bool, true, false, List, [], ◌∷◌, Some, length, slice_index, arith}
use Rattle.std.proofs.lemmas.Bool.Decides.{nat_tests}
use Rattle.proof_cycles.specs.Below.card_code.Rows.{row_number}
use Rattle.proof_cycles.specs.Below.card_code.declared.row.Row.{Row as CardRow}
use Rattle.proof_cycles.specs.Below.counters.Counters.{shows}
use Rattle.proof_cycles.specs.Below.hubs.Hubs.{number_of}
use Rattle.proof_cycles.specs.Below.hubs.declared.hub.Group.{Group}
use Rattle.proof_cycles.specs.Below.hubs.declared.hub.Hub.{Hub}
use Rattle.proof_cycles.specs.Below.hubs.declared.hub.Hub.TheVariants.{FR, SR, GX, SX, EM, PX, HX, RO, SO}
use Rattle.proof_cycles.specs.Below.machine.Machine.{MachineState}
use Rattle.proof_cycles.proofs.Below.net.Rows.{is_hub-own}
use Rattle.proof_cycles.specs.Below.net.Cycles.{level_number, ordinal_number}
use Rattle.proof_cycles.specs.Below.net.HubSets.{is_hub}
use Rattle.proof_cycles.specs.Below.net.declared.cycle.Cycle.{Cycle}
use Rattle.proof_cycles.specs.Below.net.declared.cycle.Cycle.TheVariants.{Card}
use Rattle.proof_cycles.specs.Below.net.declared.cycle.Point.{Point}
use Rattle.proof_cycles.specs.Below.net.declared.cycle.Point.TheVariants.{C, Row}
use Rattle.print_unit.specs.Emitters.{emits_row}
use Rattle.proof_cycles.specs.Below.stations.Punches.{is_punched_at}
use Rattle.proof_cycles.specs.Below.stations.Stations.{stations_emits}
use Rattle.proof_cycles.specs.Below.storage_units.Storage.{holds}
use Rattle.proof_cycles.specs.WholeCycles.WholeCycles.{control_emits, row_emits, group_reads_out, storage_reads_out}
use Rattle.proof_reports.specs.WiredPanels.Sources.{EmitsAtControl, EmitsAtRow, ReadsFirst, digit_from_units}
use Rattle.proof_reports.specs.WiredPanels.Sources.ReadsFirst.{run_in, card as card_reads}
use Rattle.proof_reports.specs.WiredPanels.Sources.EmitsAtControl.{card as tells_card, prog as tells_prog, head as tells_head}
use Rattle.proof_reports.specs.WiredPanels.Sources.EmitsAtRow.{first, second, digit, column, emitter}
use Rattle.wiring_table.proofs.Below.chart_lines.ChartsWords.Listed.{any-listed}

-- a hub of the panel is itself
pub own : (hub : Hub) (n : ℕ) → number_of hub ≡ Some n → is_hub hub hub ≡ true
own hub n is = is_hub-own hub n is

-- the exit that tells of a cycle emits, if it is a hub of the panel
pub telling : {cycle : Cycle} {hub : Hub} (n : ℕ) → EmitsAtControl cycle hub → number_of hub ≡ Some n → control_emits cycle hub ≡ true
telling n tells_card is = refl
telling n (tells_prog level ordinal) is = own (PX (level_number level) (ordinal_number ordinal)) n is
telling n (tells_head heading) is = own (HX (ordinal_number heading)) n is

-- a group shows the digit of each of its positions
showing :
    (name : Group) (given : ℕ) (digits : List ℕ) (position n : ℕ) → 1 ≤ position → position ≤ length digits
    → digit_from_units digits position ≡ given → number_of (GX name position) ≡ Some n → shows name given digits (GX name position) ≡ true
showing name given [] position n low high is there = absurd (omega (arith, low, high))
showing name given (d ∷ below) position n low high is there =
    by (position == length below + 1) refl (λ less. showing name given below position n low less)
  where
    or-true : (a b : Bool) → b ≡ true → (a || b) ≡ true
    or-true true b on = refl
    or-true false b on = on

    here : position ≡ length below + 1 → shows name given (d ∷ below) (GX name position) ≡ true
    here same =
        let none : suc (length below) - position ≡ 0 = omega (arith, same) in
        let top : d ≡ given = sym (ap (λ k. slice_index (d ∷ below) k) none) ∙ is in
        let test : (d == given) ≡ true = grind (arith, nat_tests, top) in
        let hub : is_hub (GX name (length below + 1)) (GX name position) ≡ true =
        ap (λ p. is_hub (GX name p) (GX name position)) (sym same) ∙ own (GX name position) n there in
        rw (test, hub) refl

    by : (b : Bool) → (position == length below + 1) ≡ b
        → (position ≤ length below → digit_from_units below position ≡ given → number_of (GX name position) ≡ Some n
        → shows name given below (GX name position) ≡ true)
        → shows name given (d ∷ below) (GX name position) ≡ true
    by true same others = here (grind (arith, nat_tests, same))
    by false differs others =
        let apart : (position == length below + 1) ≡ false = differs in
        let not_top : position ≤ length below = grind (arith, nat_tests, apart, high) in
        let k : suc (length below) - position ≡ suc (length below - position) = omega (arith, low, not_top) in
        or-true ((d == given) && is_hub (GX name (length below + 1)) (GX name position)) _
        (others not_top (sym (ap (λ m. slice_index (d ∷ below) m) k) ∙ is) there)

-- any of four
first_of : (a b c d : Bool) → a ≡ true → (a || b || c || d) ≡ true
first_of true b c d on = refl
first_of false b c d on = cc

second_of : (a b c d : Bool) → b ≡ true → (a || b || c || d) ≡ true
second_of true b c d on = refl
second_of false true c d on = refl
second_of false false c d on = cc

third_of : (a b c d : Bool) → c ≡ true → (a || b || c || d) ≡ true
third_of true b c d on = refl
third_of false true c d on = refl
third_of false false true d on = refl
third_of false false false d on = cc

fourth_of : (a b c d : Bool) → d ≡ true → (a || b || c || d) ≡ true
fourth_of true b c d on = refl
fourth_of false true c d on = refl
fourth_of false false true d on = refl
fourth_of false false false d on = on

both : (a b : Bool) → a ≡ true → b ≡ true → (a && b) ≡ true
both true true one other = refl
both true false one other = cc
both false b one other = cc

-- the stations emit what they send
reading : (old : MachineState) {cycle : Cycle} (row : CardRow) (c : ℕ) → ReadsFirst cycle → is_punched_at old.stations.first row c ≡ true
    → stations_emits old.stations cycle (Row row) (FR c) ≡ true
reading old row c run_in punched = punched
reading old row c card_reads punched = rw punched refl

reading_second : (old : MachineState) (cycle : Cycle) (row : CardRow) (c : ℕ) → cycle ≡ Card
    → is_punched_at old.stations.second row c ≡ true → stations_emits old.stations cycle (Row row) (SR c) ≡ true
reading_second old cycle row c is punched =
    ap (λ k. stations_emits old.stations k (Row row) (SR c)) is ∙ punched

-- What sends at a row emits there, if it is a hub of the panel.
pub sending :
    (old : MachineState) (pictures : Point → Hub → Bool) (cycle : Cycle) (row : CardRow) {hub : Hub} (n : ℕ)
    → EmitsAtRow old pictures cycle row hub → number_of hub ≡ Some n → row_emits old pictures cycle row hub ≡ true
sending old pictures cycle row n (first c reads punched) there =
    first_of _ _ _ _ (reading old row c reads punched)
sending old pictures cycle row n (second c is punched) there =
    first_of _ _ _ _ (reading_second old cycle row c is punched)
sending old pictures cycle row n (digit group position listed out low high is) there =
    second_of (stations_emits old.stations cycle (Row row) (GX group.name position)) _ _ _
    (any-listed (λ g. group_reads_out pictures row g (GX group.name position)) old.groups group listed
    (both (pictures C (RO group.name)) (shows group.name (row_number row) group.digits (GX group.name position)) out
    (showing group.name (row_number row) group.digits position n low high is there)))
sending old pictures cycle row n (column storage c listed out held) there =
    let same : (storage.place == storage.place) ≡ true = grind (arith, nat_tests) in
    third_of (stations_emits old.stations cycle (Row row) (SX storage.place c)) _ _ _
    (any-listed (λ s. storage_reads_out pictures row s (SX storage.place c)) old.storage storage listed
    (both (pictures C (SO storage.place) && (storage.place == storage.place)) (holds storage row c)
    (both (pictures C (SO storage.place)) _ out same) held))
sending old pictures cycle row n (emitter e is) there =
    fourth_of (stations_emits old.stations cycle (Row row) (EM e (row_number row))) _ _ _
    (ap (λ o. emits_row o row (EM e (row_number row))) is ∙ own (EM e (row_number row)) n there)
