-- While units run ahead of one another, each that has come to a point stands in the state that it has there where all act at once;
-- the exits emitted so far and the contacts closed so far at a point are among those of that point, and those of the units that
-- emitted and came are among them. So each schedule ends as the cycle in which all act at once.
use Rattle.std.proofs.Common.{◌≡◌, ◌∙◌, ap, sym, refl, ℕ, zero, suc, ◌+◌, ◌<◌, ◌≤◌, Bool, true, false, inl, inr, List, [], ◌∷◌, subst, arith}
use Rattle.std.proofs.lemmas.Bool.{cases_eq, false≢true, or_cases, or_left, or_right}
use Rattle.hubs.specs.declared.hub.Hub.{Hub}
use Rattle.hubs.specs.SetupsWords.Wiring.{Wiring}
use Rattle.net.specs.Cycles.{point_at}
use Rattle.net.specs.Panel.{owner_of, reader_of}
use Rattle.net.specs.declared.cycle.Cycle.{Cycle}
use Rattle.machine_served.proofs.ServedWords.FirstPass.{impulsed_early, impulsed_grows}
use Rattle.machine_served.proofs.ServedWords.SomeUnit.{some_unit-found, some_unit-holds, states_numbered}
use Rattle.machine_served.specs.ServedWords.Cycles.{IsAtOnce}
use Rattle.machine_served.specs.ServedWords.Laws.{SchedulesEndAsAtOnce}
use Rattle.machine_served.specs.ServedWords.Steps.{Emits, HasEmitted, Runs, Senses, Served, Starts, Step, Takes}
use Rattle.machine_served.specs.ServedWords.Steps.Step.{emission, sensing}
use Rattle.net.specs.Units.{KeepsToItsOwn, Kind}
use Rattle.machine_served.specs.ServedWords.Units.{IsUnit, all_close, all_emit}
use Rattle.machine_served.specs.ServedWords.Waits.{MayReach}

-- what is kept by each step
pub record IsKept {State : Type 0} (kind : Kind State) (cycle : Cycle) (count : ℕ) (states : ℕ → ℕ → State)
    (served : Served State) : Type 0 where
  pub places : (unit : ℕ) → IsUnit count unit → served.places unit ≤ 14
  pub as_there : (unit : ℕ) → IsUnit count unit → served.units unit ≡ states (served.places unit) unit
  pub exits_in :
      (place : ℕ) (hub : Hub) → place < 14 → served.exits place hub ≡ true
      → all_emit kind count (states place) cycle (point_at place) hub ≡ true
  pub exits_held :
      (place unit : ℕ) (hub : Hub) → place < 14 → IsUnit count unit → HasEmitted served unit place
      → kind.emits (states place unit) cycle (point_at place) hub ≡ true → served.exits place hub ≡ true
  pub closed_in :
      (place : ℕ) (hub : Hub) → place < 14 → served.closed place hub ≡ true
      → all_close kind count (states place) cycle (point_at place) hub ≡ true
  pub closed_held :
      (place unit : ℕ) (hub : Hub) → place < 14 → IsUnit count unit → place ≤ served.places unit
      → kind.closes (states place unit) cycle (point_at place) hub ≡ true → served.closed place hub ≡ true

-- two answers that follow from each other are the same
same_answer : (one other : Bool) → (one ≡ true → other ≡ true) → (other ≡ true → one ≡ true) → one ≡ other
same_answer true other forth back = sym (forth refl)
same_answer false true forth back = back refl
same_answer false false forth back = refl

module _ {State : Type 0} (kind : Kind State) (wiring : Wiring) (cycle : Cycle) (count : ℕ) (states : ℕ → ℕ → State)
    (own : KeepsToItsOwn kind) (course : IsAtOnce kind wiring cycle count states) where
  abbrev Kept : Served State → Type 0
  Kept = IsKept kind cycle count states

  -- at the start
  silent_at_start : (start : Served State) → Starts kind cycle count (states 0) start → (place unit : ℕ) → IsUnit count unit
      → HasEmitted start unit place → ⊥
  silent_at_start start starts place unit is (inl before) = omega (arith, starts.places unit is, before)
  silent_at_start start starts place unit is (inr at) = false≢true (sym (starts.emitted unit is) ∙ at.1)

  closed_in_start : (start : Served State) → Starts kind cycle count (states 0) start → (place : ℕ) (hub : Hub)
      → place < 14 → start.closed place hub ≡ true
      → all_close kind count (states place) cycle (point_at place) hub ≡ true
  closed_in_start start starts zero hub low on = sym (starts.control_point hub) ∙ on
  closed_in_start start starts (suc place) hub low on =
      absurd (false≢true (sym (starts.later_points (suc place) hub low (omega arith)) ∙ on))

  closed_held_start : (start : Served State) → Starts kind cycle count (states 0) start → (place unit : ℕ) (hub : Hub)
      → place < 14 → IsUnit count unit → place ≤ start.places unit
      → kind.closes (states place unit) cycle (point_at place) hub ≡ true → start.closed place hub ≡ true
  closed_held_start start starts zero unit hub low is came on =
      starts.control_point hub
      ∙ some_unit-holds (λ other. kind.closes (states 0 other) cycle (point_at 0) hub) count unit is on
  closed_held_start start starts (suc place) unit hub low is came on =
      absurd (omega (arith, came, starts.places unit is))

  kept_at_start : (start : Served State) → Starts kind cycle count (states 0) start → Kept start
  kept_at_start start starts = record {
    places = λ unit is. omega (arith, starts.places unit is);
    as_there = λ unit is. starts.states unit is ∙ ap (λ (p : ℕ). states p unit) (sym (starts.places unit is));
    exits_in = λ place hub low on. absurd (false≢true (sym (starts.exits place hub low) ∙ on));
    exits_held = λ place unit hub low is has on. absurd (silent_at_start start starts place unit is has);
    closed_in = closed_in_start start starts;
    closed_held = closed_held_start start starts;
  }

  -- a unit emits
  module _ (u : ℕ) (old new : Served State) (is_u : IsUnit count u) (emits : Emits kind cycle u old new) (kept : Kept old) where
    emits_there : (hub : Hub)
        → kind.emits (old.units u) cycle (point_at (old.places u)) hub
        ≡ kind.emits (states (old.places u) u) cycle (point_at (old.places u)) hub
    emits_there hub = ap (λ (s : State). kind.emits s cycle (point_at (old.places u)) hub) (kept.as_there u is_u)

    exits_grow : (place : ℕ) (hub : Hub) → place < 14 → old.exits place hub ≡ true → new.exits place hub ≡ true
    exits_grow place hub low on = elim (cases_eq place (old.places u)) [
      | inl here ↦
          subst (λ (p : ℕ). old.exits p hub ≡ true → new.exits p hub ≡ true) (sym here)
          (λ on. emits.own_exits hub ∙ or_left (old.exits (old.places u) hub) _ on) on
      | inr elsewhere ↦ emits.other_exits place hub low elsewhere ∙ on
    ]

    exits_in_here : (hub : Hub) → new.exits (old.places u) hub ≡ true
        → all_emit kind count (states (old.places u)) cycle (point_at (old.places u)) hub ≡ true
    exits_in_here hub on =
        elim (or_cases (old.exits (old.places u) hub) (kind.emits (old.units u) cycle (point_at (old.places u)) hub)
        (sym (emits.own_exits hub) ∙ on)) [
          | inl was ↦ kept.exits_in (old.places u) hub emits.allowed.within was
          | inr emitted ↦
              some_unit-holds (λ other. kind.emits (states (old.places u) other) cycle (point_at (old.places u)) hub) count u
              is_u (sym (emits_there hub) ∙ emitted)
        ]

    exits_in_emission : (place : ℕ) (hub : Hub) → place < 14 → new.exits place hub ≡ true
        → all_emit kind count (states place) cycle (point_at place) hub ≡ true
    exits_in_emission place hub low on = elim (cases_eq place (old.places u)) [
      | inl here ↦
          subst (λ (p : ℕ). new.exits p hub ≡ true → all_emit kind count (states p) cycle (point_at p) hub ≡ true)
          (sym here) (exits_in_here hub) on
      | inr elsewhere ↦ kept.exits_in place hub low (sym (emits.other_exits place hub low elsewhere) ∙ on)
    ]

    own_held : (place : ℕ) (hub : Hub) → place < 14 → HasEmitted new u place
        → kind.emits (states place u) cycle (point_at place) hub ≡ true → new.exits place hub ≡ true
    own_held place hub low (inl before) on =
        exits_grow place hub low
        (kept.exits_held place u hub low is_u (inl (omega (arith, before, emits.places u))) on)
    own_held place hub low (inr at) on =
        let here : old.places u ≡ place = sym (emits.places u) ∙ at.0 in
        subst (λ (p : ℕ). kind.emits (states p u) cycle (point_at p) hub ≡ true → new.exits p hub ≡ true) here
        (λ on. emits.own_exits hub ∙ or_right (old.exits (old.places u) hub) _ (emits_there hub ∙ on)) on

    emitted_before : (place other : ℕ) → (other ≡ u → ⊥) → HasEmitted new other place → HasEmitted old other place
    emitted_before place other another (inl before) = inl (omega (arith, before, emits.places other))
    emitted_before place other another (inr at) =
        inr (sym (emits.places other) ∙ at.0, sym (emits.other_emitted other another) ∙ at.1)

    exits_held_emission : (place other : ℕ) (hub : Hub) → place < 14 → IsUnit count other → HasEmitted new other place
        → kind.emits (states place other) cycle (point_at place) hub ≡ true → new.exits place hub ≡ true
    exits_held_emission place other hub low is has on = elim (cases_eq other u) [
      | inl self ↦
          subst
          (λ (n : ℕ). HasEmitted new n place → kind.emits (states place n) cycle (point_at place) hub ≡ true
          → new.exits place hub ≡ true)
          (sym self) (own_held place hub low) has on
      | inr another ↦
          exits_grow place hub low
          (kept.exits_held place other hub low is (emitted_before place other another has) on)
    ]

    kept_emission : Kept new
    kept_emission = record {
      places = λ unit is. omega (arith, emits.places unit, kept.places unit is);
      as_there =
          λ unit is.
          emits.units unit ∙ kept.as_there unit is ∙ ap (λ (p : ℕ). states p unit) (sym (emits.places unit));
      exits_in = exits_in_emission;
      exits_held = exits_held_emission;
      closed_in = λ place hub low on. kept.closed_in place hub low (sym (emits.closed place hub low) ∙ on);
      closed_held =
          λ place unit hub low is came on.
          emits.closed place hub low
          ∙ kept.closed_held place unit hub low is (omega (arith, came, emits.places unit)) on;
    }

  -- a unit senses
  module _ (u : ℕ) (old new : Served State) (is_u : IsUnit count u) (senses : Senses kind wiring cycle count u old new)
      (kept : Kept old) where
    abbrev at : ℕ
    at = old.places u

    numbered_at : (unit : ℕ) → IsUnit count unit → kind.number (states (old.places u) unit) ≡ unit
    numbered_at unit is =
        states_numbered kind wiring cycle count states own course (old.places u) (kept.places u is_u) unit is

    -- all units from which an entry of the unit may be reached have emitted
    all_emitted : (entry : Hub) → reader_of entry ≡ u → (other : ℕ) → IsUnit count other → MayReach wiring other entry
        → HasEmitted old other (old.places u)
    all_emitted entry read other is reach = elim (cases_eq other u) [
      | inl self ↦ inr (ap old.places self, ap old.emitted self ∙ senses.allowed.emitted)
      | inr another ↦
          senses.allowed.waited other is
          (record { another = another; entry = entry; sensed = read; reached = reach })
    ]

    all_came : (other place : ℕ) → HasEmitted old other place → place ≤ old.places other
    all_came other place (inl before) = omega (arith, before)
    all_came other place (inr here) = omega (arith, here.0)

    exits_there : (entry : Hub) → reader_of entry ≡ u → (hub : Hub) → MayReach wiring (owner_of hub) entry
        → all_emit kind count (states (old.places u)) cycle (point_at (old.places u)) hub ≡ true
        → old.exits (old.places u) hub ≡ true
    exits_there entry read hub may on =
        let found = some_unit-found _ count on in
        let whose = own.emits_own (states (old.places u) found.unit) cycle (point_at (old.places u)) hub found.passes
        ∙ numbered_at found.unit found.is_unit in
        kept.exits_held (old.places u) found.unit hub senses.allowed.within found.is_unit
        (all_emitted entry read found.unit found.is_unit (subst (λ (n : ℕ). MayReach wiring n entry) whose may))
        found.passes

    closed_there : (entry : Hub) → reader_of entry ≡ u → (hub : Hub) → MayReach wiring (owner_of hub) entry
        → all_close kind count (states (old.places u)) cycle (point_at (old.places u)) hub ≡ true
        → old.closed (old.places u) hub ≡ true
    closed_there entry read hub may on =
        let found = some_unit-found _ count on in
        let whose = own.closes_own (states (old.places u) found.unit) cycle (point_at (old.places u)) hub found.passes
        ∙ numbered_at found.unit found.is_unit in
        let has = all_emitted entry read found.unit found.is_unit (subst (λ (n : ℕ). MayReach wiring n entry) whose may) in
        kept.closed_held (old.places u) found.unit hub senses.allowed.within found.is_unit
        (all_came found.unit (old.places u) has) found.passes

    agrees : (entry : Hub) → reader_of entry ≡ u → senses.picture entry ≡ course.pictures (old.places u) entry
    agrees entry read =
        same_answer (senses.picture entry) (course.pictures (old.places u) entry)
        (λ on.
        (course.are_pictures (old.places u) senses.allowed.within entry).1
        (impulsed_grows wiring (old.exits (old.places u)) (old.closed (old.places u)) _ _
        (λ hub. kept.exits_in (old.places u) hub senses.allowed.within)
        (λ hub. kept.closed_in (old.places u) hub senses.allowed.within) ((senses.is_picture entry).0 on)))
        (λ on.
        (senses.is_picture entry).1
        (impulsed_early wiring _ _ (old.exits (old.places u)) (old.closed (old.places u)) entry (exits_there entry read)
        (closed_there entry read) ((course.are_pictures (old.places u) senses.allowed.within entry).0 on)
        (λ unit reach. reach)))

    sensed_there : new.units u ≡ states (old.places u + 1) u
    sensed_there =
        senses.own_unit
        ∙ ap (λ (s : State). kind.sensed s cycle (point_at (old.places u)) senses.picture) (kept.as_there u is_u)
        ∙ own.senses_own (states (old.places u) u) cycle (point_at (old.places u)) senses.picture
        (course.pictures (old.places u)) (λ entry read. agrees entry (read ∙ numbered_at u is_u))
        ∙ sym (course.sensed (old.places u) u senses.allowed.within is_u)

    as_there_sensing : (unit : ℕ) → IsUnit count unit → new.units unit ≡ states (new.places unit) unit
    as_there_sensing unit is = elim (cases_eq unit u) [
      | inl self ↦
          subst (λ (n : ℕ). new.units n ≡ states (new.places n) n) (sym self)
          (sensed_there ∙ ap (λ (p : ℕ). states p u) (sym senses.own_place))
      | inr another ↦
          senses.other_units unit another ∙ kept.as_there unit is
          ∙ ap (λ (p : ℕ). states p unit) (sym (senses.other_places unit another))
    ]

    places_sensing : (unit : ℕ) → IsUnit count unit → new.places unit ≤ 14
    places_sensing unit is = elim (cases_eq unit u) [
      | inl self ↦
          subst (λ (n : ℕ). new.places n ≤ 14) (sym self) (omega (arith, senses.own_place, senses.allowed.within))
      | inr another ↦ omega (arith, senses.other_places unit another, kept.places unit is)
    ]

    own_emitted_before : (place : ℕ) → HasEmitted new u place → HasEmitted old u place
    own_emitted_before place (inl before) = elim (cases_eq place (old.places u)) [
      | inl here ↦ inr (sym here, senses.allowed.emitted)
      | inr elsewhere ↦ inl (omega (arith, before, senses.own_place, elsewhere))
    ]
    own_emitted_before place (inr here) = absurd (false≢true (sym senses.own_emitted ∙ here.1))

    other_emitted_before : (place other : ℕ) → (other ≡ u → ⊥) → HasEmitted new other place → HasEmitted old other place
    other_emitted_before place other another (inl before) = inl (omega (arith, before, senses.other_places other another))
    other_emitted_before place other another (inr here) =
        inr (sym (senses.other_places other another) ∙ here.0, sym (senses.other_emitted other another) ∙ here.1)

    all_emitted_before : (place other : ℕ) → HasEmitted new other place → HasEmitted old other place
    all_emitted_before place other has = elim (cases_eq other u) [
      | inl self ↦
          subst (λ (n : ℕ). HasEmitted new n place → HasEmitted old n place) (sym self) (own_emitted_before place) has
      | inr another ↦ other_emitted_before place other another has
    ]

    closes_there : (hub : Hub)
        → kind.closes (new.units u) cycle (point_at (old.places u + 1)) hub
        ≡ kind.closes (states (old.places u + 1) u) cycle (point_at (old.places u + 1)) hub
    closes_there hub = ap (λ (s : State). kind.closes s cycle (point_at (old.places u + 1)) hub) sensed_there

    closed_grow : (place : ℕ) (hub : Hub) → place < 14 → old.closed place hub ≡ true → new.closed place hub ≡ true
    closed_grow place hub low on = elim (cases_eq place (old.places u + 1)) [
      | inl here ↦
          subst (λ (p : ℕ). p < 14 → old.closed p hub ≡ true → new.closed p hub ≡ true) (sym here)
          (λ low on. senses.own_closed hub low ∙ or_left (old.closed (old.places u + 1) hub) _ on) low on
      | inr elsewhere ↦ senses.other_closed place hub low elsewhere ∙ on
    ]

    closed_in_here : (hub : Hub) → old.places u + 1 < 14 → new.closed (old.places u + 1) hub ≡ true
        → all_close kind count (states (old.places u + 1)) cycle (point_at (old.places u + 1)) hub ≡ true
    closed_in_here hub low on =
        elim (or_cases (old.closed (old.places u + 1) hub)
        (kind.closes (new.units u) cycle (point_at (old.places u + 1)) hub) (sym (senses.own_closed hub low) ∙ on)) [
          | inl was ↦ kept.closed_in (old.places u + 1) hub low was
          | inr closes ↦
              some_unit-holds (λ other. kind.closes (states (old.places u + 1) other) cycle (point_at (old.places u + 1)) hub)
              count u is_u (sym (closes_there hub) ∙ closes)
        ]

    closed_in_sensing : (place : ℕ) (hub : Hub) → place < 14 → new.closed place hub ≡ true
        → all_close kind count (states place) cycle (point_at place) hub ≡ true
    closed_in_sensing place hub low on = elim (cases_eq place (old.places u + 1)) [
      | inl here ↦
          subst
          (λ (p : ℕ). p < 14 → new.closed p hub ≡ true → all_close kind count (states p) cycle (point_at p) hub ≡ true)
          (sym here) (closed_in_here hub) low on
      | inr elsewhere ↦ kept.closed_in place hub low (sym (senses.other_closed place hub low elsewhere) ∙ on)
    ]

    own_closed_held : (place : ℕ) (hub : Hub) → place < 14 → place ≤ new.places u
        → kind.closes (states place u) cycle (point_at place) hub ≡ true → new.closed place hub ≡ true
    own_closed_held place hub low came on = elim (cases_eq place (old.places u + 1)) [
      | inl here ↦
          subst
          (λ (p : ℕ). p < 14 → kind.closes (states p u) cycle (point_at p) hub ≡ true → new.closed p hub ≡ true)
          (sym here)
          (λ low on.
          senses.own_closed hub low ∙ or_right (old.closed (old.places u + 1) hub) _ (closes_there hub ∙ on))
          low on
      | inr elsewhere ↦
          closed_grow place hub low
          (kept.closed_held place u hub low is_u (omega (arith, came, senses.own_place, elsewhere)) on)
    ]

    closed_held_sensing : (place other : ℕ) (hub : Hub) → place < 14 → IsUnit count other → place ≤ new.places other
        → kind.closes (states place other) cycle (point_at place) hub ≡ true → new.closed place hub ≡ true
    closed_held_sensing place other hub low is came on = elim (cases_eq other u) [
      | inl self ↦
          subst
          (λ (n : ℕ). place ≤ new.places n → kind.closes (states place n) cycle (point_at place) hub ≡ true
          → new.closed place hub ≡ true)
          (sym self) (own_closed_held place hub low) came on
      | inr another ↦
          closed_grow place hub low
          (kept.closed_held place other hub low is (omega (arith, came, senses.other_places other another)) on)
    ]

    kept_sensing : Kept new
    kept_sensing = record {
      places = places_sensing;
      as_there = as_there_sensing;
      exits_in = λ place hub low on. kept.exits_in place hub low (sym (senses.exits place hub low) ∙ on);
      exits_held =
          λ place unit hub low is has on.
          senses.exits place hub low
          ∙ kept.exits_held place unit hub low is (all_emitted_before place unit has) on;
      closed_in = closed_in_sensing;
      closed_held = closed_held_sensing;
    }

  kept_by_step : (step : Step) (old new : Served State) → Takes kind wiring cycle count step old new → Kept old → Kept new
  kept_by_step (emission unit) old new takes kept = kept_emission unit old new takes.0 takes.1 kept
  kept_by_step (sensing unit) old new takes kept = kept_sensing unit old new takes.0 takes.1 kept

  kept_by_steps : (steps : List Step) (old new : Served State) → Runs kind wiring cycle count steps old new → Kept old → Kept new
  unfolding Runs
  kept_by_steps [] old new same kept = subst Kept (sym same) kept
  kept_by_steps (step ∷ steps) old new run kept =
      kept_by_steps steps run.0 new run.2 (kept_by_step step old run.0 run.1 kept)

-- each schedule ends as the cycle in which all act at once
pub schedules_end : (State : Type 0) → SchedulesEndAsAtOnce State
schedules_end State kind wiring cycle count states steps start last own course starts runs over unit is =
    let kept = kept_by_steps kind wiring cycle count states own course steps start last runs
    (kept_at_start kind wiring cycle count states own course start starts) in
    kept.as_there unit is ∙ ap (λ (p : ℕ). states p unit) (over unit is)
