-- Holes send impulses to the entries to which wires lead from their brushes.
use Rattle.std.proofs.Common.{◌≡◌, ◌∙◌, sym, ap, subst, refl, ℕ, zero, suc, ◌+◌, ◌-◌, ◌||◌, arith, Bool, true, false, ◌⊎◌, inl, inr, List, Option, Some, None, is_some, if◌then◌else◌}
use Rattle.std.proofs.lemmas.Bool.{and_parts, false≢true}
use Rattle.std.specs.Prelude.{slice_get}
use Rattle.card_code.specs.declared.row.Row.{Row as CardRow}
use Rattle.hubs.proofs.HubLemmas.{in_range}
use Rattle.hubs.specs.declared.hub.Hub.{Hub}
use Rattle.hubs.specs.declared.hub.Hub.TheVariants.{FR, SR}
use Rattle.explain_ledgers.specs.LedgersWords.Ledgers.{card_in, ready}
use Rattle.machine.specs.Machine.{MachineState, closes, emits}
use Rattle.net.specs.Impulsed.{IsImpulsed, emitting, led_on}
use Rattle.net.specs.declared.cycle.Cycle.{Cycle}
use Rattle.net.specs.declared.cycle.Cycle.TheVariants.{RunIn, Card, Prog, Head}
use Rattle.net.specs.declared.cycle.Point.TheVariants.{Row}
use Rattle.explain_origins.proofs.Standing.{cards-numbered, points-stations}
use Rattle.explain_origins.specs.Cards.{CardsStand}
use Rattle.explain_origins.specs.Holes.{column_to, first_of, hole_at, hole_in, hole_in_cycle, hole_to, leads_to}
use Rattle.explain_origins.specs.declared.holes.Hole.{Hole}
use Rattle.explain_origins.specs.declared.holes.Station.{Station}
use Rattle.explain_origins.specs.declared.holes.Station.TheVariants.{First, Second}
use Rattle.hubs.proofs.SetupsWords.WiredLemmas.{HasWire-is_wired}
use Rattle.hubs.specs.SetupsWords.Wiring.{HasWire, Wiring, is_wired}
use Rattle.stations.specs.Punches.{is_punched_at}
use Rattle.stations.specs.Stations.{StationCards, stations_emits}
use Rattle.proof_laws.specs.HoleLaws.Impulses.{HolesImpulseEntries}

none-is : {X : Type 0} (x : X) → None ≡ Some x → ⊥
none-is x same = false≢true (ap is_some same)

column-of : Option ℕ → ℕ
column-of None = 0
column-of (Some column) = column

column-same : (one other : ℕ) → Some one ≡ Some other → one ≡ other
unfolding column-of
column-same one other same = ap column-of same

-- the column that is found has such a hole
column-leads : (wiring : Wiring) (card : Option (List ℕ)) (station : Station) (row : CardRow) (entry : Hub) (columns column : ℕ)
    → column_to wiring card station row entry columns ≡ Some column → leads_to wiring card station row entry column ≡ true
column-leads wiring card station row entry zero column found = absurd (none-is column found)
column-leads wiring card station row entry (suc columns) column found =
    by (λ other is. column-leads wiring card station row entry columns other is) (column_to wiring card station row entry columns) refl
    (leads_to wiring card station row entry (suc columns)) refl found
  where
    by : ((other : ℕ) → column_to wiring card station row entry columns ≡ Some other → leads_to wiring card station row entry other ≡ true)
        → (lower : Option ℕ) → column_to wiring card station row entry columns ≡ lower → (here : Bool)
        → leads_to wiring card station row entry (suc columns) ≡ here
        → first_of lower (if here then Some (suc columns) else None) ≡ Some column → leads_to wiring card station row entry column ≡ true
    by lower (Some other) is here leads same = lower column (is ∙ same)
    by lower None is true leads same =
        subst (λ (n : ℕ). leads_to wiring card station row entry n ≡ true) (column-same (suc columns) column same) leads
    by lower None is false leads same = absurd (none-is column same)

-- a hole that is told is one of the card that is read, or of the next one
module _ (wiring : Wiring) (deck : List (List ℕ)) (card : ℕ) (row : CardRow) (entry : Hub) (hole : Hole) where
  abbrev HasHole : Type 0
  HasHole =
      ((column : ℕ) × (leads_to wiring (slice_get deck (card - 1)) Second row entry column ≡ true))
      ⊎ ((column : ℕ) × (leads_to wiring (slice_get deck card) First row entry column ≡ true))

  has-hole : hole_to wiring deck card row entry ≡ Some hole → HasHole
  has-hole told = by (column_to wiring (slice_get deck (card - 1)) Second row entry 80) refl told
    where
      next : (column : Option ℕ) → column_to wiring (slice_get deck card) First row entry 80 ≡ column → hole_in First column ≡ Some hole
          → HasHole
      next (Some column) is told = inr (column, column-leads wiring (slice_get deck card) First row entry 80 column is)
      next None is told = absurd (none-is hole told)

      by : (column : Option ℕ) → column_to wiring (slice_get deck (card - 1)) Second row entry 80 ≡ column
          → first_of (hole_in Second column) (hole_at wiring (slice_get deck card) First row entry) ≡ Some hole → HasHole
      by (Some column) is told = inl (column, column-leads wiring (slice_get deck (card - 1)) Second row entry 80 column is)
      by None is told = next (column_to wiring (slice_get deck card) First row entry 80) refl told

-- what the stations emit, the machine emits
all-emit : (stations comparing groups storage pilots indicate splits emitters wheels carriage program : Bool) → stations ≡ true
    → (stations || comparing || groups || storage || pilots || indicate || splits || emitters || wheels || carriage || program) ≡ true
all-emit true comparing groups storage pilots indicate splits emitters wheels carriage program is = refl
all-emit false comparing groups storage pilots indicate splits emitters wheels carriage program is = absurd (false≢true is)

first-of-two : (a b : Bool) → a ≡ true → (a || b) ≡ true
first-of-two true b is = refl
first-of-two false b is = absurd (false≢true is)

last-of-two : (b : Bool) → b ≡ true → (false || b) ≡ true
last-of-two b is = is

-- from a brush that emits an impulse goes along the wire
module _ (wiring : Wiring) (row : CardRow) (entry : Hub) (now : MachineState) where
  led : (cycle : Cycle) (exit : Hub) → stations_emits now.stations cycle (Row row) exit ≡ true → is_wired wiring exit entry ≡ true
      → IsImpulsed wiring (emits now cycle (Row row)) (closes now cycle (Row row)) entry
  led cycle exit sends wired =
      let wire : HasWire wiring exit entry = (HasWire-is_wired wiring exit entry).0 wired in
      led_on exit entry (emitting exit (in_range exit wire.number wire.numbered) (all-emit _ _ _ _ _ _ _ _ _ _ _ sends)) (inl wire)

  from-second : (card : Option (List ℕ)) (column : ℕ) → now.stations.second ≡ card → leads_to wiring card Second row entry column ≡ true
      → IsImpulsed wiring (emits now Card (Row row)) (closes now Card (Row row)) entry
  from-second card column stands leads =
      let both = and_parts (is_punched_at card row column) (is_wired wiring (SR column) entry) leads in
      led Card (SR column)
      (last-of-two _ (ap (λ (c : Option (List ℕ)). is_punched_at c row column) stands ∙ both.0)) both.1

  from-first : (card : Option (List ℕ)) (column : ℕ) → now.stations.first ≡ card → leads_to wiring card First row entry column ≡ true
      → IsImpulsed wiring (emits now Card (Row row)) (closes now Card (Row row)) entry
  from-first card column stands leads =
      let both = and_parts (is_punched_at card row column) (is_wired wiring (FR column) entry) leads in
      led Card (FR column)
      (first-of-two _ _ (ap (λ (c : Option (List ℕ)). is_punched_at c row column) stands ∙ both.0)) both.1

-- in a card cycle
pub in-card-cycle : (wiring : Wiring) (deck : List (List ℕ)) (card : ℕ) (row : CardRow) (entry : Hub) (hole : Hole) (now : MachineState)
    → CardsStand deck (suc card) now → hole_to wiring deck (suc card) row entry ≡ Some hole
    → IsImpulsed wiring (emits now Card (Row row)) (closes now Card (Row row)) entry
in-card-cycle wiring deck card row entry hole now stand told = by (has-hole wiring deck (suc card) row entry hole told)
  where
    by : HasHole wiring deck (suc card) row entry hole → IsImpulsed wiring (emits now Card (Row row)) (closes now Card (Row row)) entry
    by (inl found) =
        let before : card ≡ suc card - 1 = omega arith in
        from-second wiring row entry now (slice_get deck (suc card - 1)) found.0 (stand.second ∙ ap (slice_get deck) before) found.1
    by (inr found) = from-first wiring row entry now (slice_get deck (suc card)) found.0 stand.first found.1

-- in the run-in
in-run-in : (wiring : Wiring) (deck : List (List ℕ)) (card : ℕ) (row : CardRow) (entry : Hub) (hole : Hole) (now : MachineState)
    → CardsStand deck card now → hole_at wiring (slice_get deck card) First row entry ≡ Some hole
    → IsImpulsed wiring (emits now RunIn (Row row)) (closes now RunIn (Row row)) entry
in-run-in wiring deck card row entry hole now stand told = by (column_to wiring (slice_get deck card) First row entry 80) refl told
  where
    by : (column : Option ℕ) → column_to wiring (slice_get deck card) First row entry 80 ≡ column → hole_in First column ≡ Some hole
        → IsImpulsed wiring (emits now RunIn (Row row)) (closes now RunIn (Row row)) entry
    by (Some column) is same =
        let leads = column-leads wiring (slice_get deck card) First row entry 80 column is in
        let both = and_parts (is_punched_at (slice_get deck card) row column) (is_wired wiring (FR column) entry) leads in
        led wiring row entry now RunIn (FR column)
        (ap (λ (c : Option (List ℕ)). is_punched_at c row column) stand.first ∙ both.0) both.1
    by None is same = absurd (none-is hole same)

-- in any cycle
in-cycle : (wiring : Wiring) (deck : List (List ℕ)) (row : CardRow) (entry : Hub) (hole : Hole) (now : MachineState) (cycle : Cycle) (card : ℕ)
    → CardsStand deck (card_in cycle card) now → hole_in_cycle wiring deck cycle (card_in cycle card) row entry ≡ Some hole
    → IsImpulsed wiring (emits now cycle (Row row)) (closes now cycle (Row row)) entry
in-cycle wiring deck row entry hole now RunIn card stand told = in-run-in wiring deck card row entry hole now stand told
in-cycle wiring deck row entry hole now Card card stand told =
    let next : card + 1 ≡ suc card = omega arith in
    in-card-cycle wiring deck card row entry hole now (subst (λ (n : ℕ). CardsStand deck n now) next stand)
    (ap (λ (n : ℕ). hole_to wiring deck n row entry) (sym next) ∙ told)
in-cycle wiring deck row entry hole now (Prog level ordinal) card stand told = absurd (none-is hole told)
in-cycle wiring deck row entry hole now (Head heading) card stand told = absurd (none-is hole told)

-- in a run
pub holes-impulse : HolesImpulseEntries
holes-impulse wiring deck passed has row entry hole points now told reached =
    let stations : now.stations ≡ has.behind.stations =
    points-stations wiring has.cycle points (ready has.cycle has.along) now reached
    ∙ sym (points-stations wiring has.cycle 14 (ready has.cycle has.along) has.behind has.goes.reached) in
    let stand = cards-numbered wiring deck passed has in
    in-cycle wiring deck row entry hole now has.cycle has.along.card
    (record {
      second = ap (λ (s : StationCards). s.second) stations ∙ stand.second;
      first = ap (λ (s : StationCards). s.first) stations ∙ stand.first;
    })
    told
