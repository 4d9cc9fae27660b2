-- Units in any states can go through a cycle by steps: some unit can step until it is over for all, and there are only so many steps.
use Rattle.std.proofs.Common.{◌≡◌, ◌∙◌, ap, sym, refl, ℕ, zero, suc, ◌+◌, ◌*◌, ◌<◌, ◌≤◌, ◌||◌, Bool, true, false, inl, inr, List, [], ◌∷◌, arith, if◌then◌else◌}
use Rattle.std.specs.Prelude.{◌==◌}
use Rattle.std.proofs.lemmas.Bool.{eq-eqb}
use Rattle.std.proofs.lemmas.Bool.Decides.{eqb_tells}
use Rattle.hubs.specs.declared.hub.Hub.{Hub}
use Rattle.hubs.specs.SetupsWords.Wiring.{Wiring}
use Rattle.net.proofs.EachPicture.{each_picture}
use Rattle.net.specs.Cycles.{point_at}
use Rattle.net.specs.Impulsed.{IsPicture}
use Rattle.net.specs.declared.cycle.Cycle.{Cycle}
use Rattle.machine_served.proofs.ServedWords.Counts.{IsWithin, all_made, all_made-bound, one_more, within_at_start, within_step}
use Rattle.machine_served.proofs.ServedWords.Progress.{some_step}
use Rattle.machine_served.specs.ServedWords.Laws.{UnitsCanGoBySteps}
use Rattle.machine_served.specs.ServedWords.Steps.{AreOver, CanStep, Emits, MayEmit, MaySense, Runs, Senses, Served, Starts, Step, Takes}
use Rattle.machine_served.specs.ServedWords.Steps.Step.{emission, sensing}
use Rattle.net.specs.Units.{Kind}
use Rattle.machine_served.specs.ServedWords.Units.{all_close}

-- one value of a function put in the place of another
put : {A : Type 0} → ℕ → A → (ℕ → A) → ℕ → A
put at value old other = if other == at then value else old other

put-own : {A : Type 0} (at : ℕ) (value : A) (old : ℕ → A) → put at value old at ≡ value
unfolding put
put-own at value old = ap (λ (b : Bool). if b then value else old at) (eq-eqb at at refl)

put-other : {A : Type 0} (at : ℕ) (value : A) (old : ℕ → A) (other : ℕ) → (other ≡ at → ⊥) → put at value old other ≡ old other
unfolding put
put-other at value old other another = elim (eqb_tells other at) [
  | inl same ↦ absurd (another same.1)
  | inr apart ↦ ap (λ (b : Bool). if b then value else old other) apart.0
]

module _ {State : Type 0} (kind : Kind State) (wiring : Wiring) (cycle : Cycle) (count : ℕ) where
  -- the start
  closed_at_start : (ℕ → State) → ℕ → Hub → Bool
  closed_at_start units zero hub = all_close kind count units cycle (point_at 0) hub
  closed_at_start units (suc place) hub = false

  start_of : (ℕ → State) → Served State
  start_of units = record {
    units = units;
    places = λ unit. 0;
    emitted = λ unit. false;
    exits = λ place hub. false;
    closed = closed_at_start units;
  }

  none_later : (units : ℕ → State) (place : ℕ) (hub : Hub) → 0 < place → closed_at_start units place hub ≡ false
  unfolding closed_at_start
  none_later units zero hub later = absurd (omega (arith, later))
  none_later units (suc place) hub later = refl

  start_starts : (units : ℕ → State) → Starts kind cycle count units (start_of units)
  unfolding start_of closed_at_start
  start_starts units = record {
    states = λ unit is. refl;
    places = λ unit is. refl;
    emitted = λ unit is. refl;
    exits = λ place hub low. refl;
    control_point = λ hub. refl;
    later_points = λ place hub low later. none_later units place hub later;
  }

  -- a unit emits
  exits_here : ℕ → Served State → Hub → Bool
  exits_here u old hub = old.exits (old.places u) hub || kind.emits (old.units u) cycle (point_at (old.places u)) hub

  with_emission : ℕ → Served State → Served State
  with_emission u old = record old {
    emitted = put u true old.emitted;
    exits = put (old.places u) (exits_here u old) old.exits;
  }

  emits_by : (u : ℕ) (old : Served State) → MayEmit old u → Emits kind cycle u old (with_emission u old)
  unfolding with_emission exits_here
  emits_by u old allowed = record {
    allowed = allowed;
    units = λ other. refl;
    places = λ other. refl;
    own_emitted = put-own u true old.emitted;
    other_emitted = λ other another. put-other u true old.emitted other another;
    own_exits = λ hub. ap (λ (test : Hub → Bool). test hub) (put-own (old.places u) (exits_here u old) old.exits);
    other_exits = λ place hub low another.
        ap (λ (test : Hub → Bool). test hub) (put-other (old.places u) (exits_here u old) old.exits place another);
    closed = λ place hub low. refl;
  }

  -- a unit senses
  picture_here : ℕ → Served State → Hub → Bool
  picture_here u old = (each_picture wiring (old.exits (old.places u)) (old.closed (old.places u))).0

  is_picture_here : (u : ℕ) (old : Served State)
      → IsPicture wiring (old.exits (old.places u)) (old.closed (old.places u)) (picture_here u old)
  unfolding picture_here
  is_picture_here u old = (each_picture wiring (old.exits (old.places u)) (old.closed (old.places u))).1

  sensed_here : ℕ → Served State → State
  sensed_here u old = kind.sensed (old.units u) cycle (point_at (old.places u)) (picture_here u old)

  closed_next : ℕ → Served State → Hub → Bool
  closed_next u old hub =
      old.closed (old.places u + 1) hub || kind.closes (sensed_here u old) cycle (point_at (old.places u + 1)) hub

  with_sensing : ℕ → Served State → Served State
  with_sensing u old = record {
    units = put u (sensed_here u old) old.units;
    places = put u (old.places u + 1) old.places;
    emitted = put u false old.emitted;
    exits = old.exits;
    closed = put (old.places u + 1) (closed_next u old) old.closed;
  }

  senses_by : (u : ℕ) (old : Served State) → MaySense wiring count old u
      → Senses kind wiring cycle count u old (with_sensing u old)
  unfolding with_sensing sensed_here closed_next
  senses_by u old allowed = record {
    allowed = allowed;
    picture = picture_here u old;
    is_picture = is_picture_here u old;
    own_unit = put-own u (sensed_here u old) old.units;
    other_units = λ other another. put-other u (sensed_here u old) old.units other another;
    own_place = put-own u (old.places u + 1) old.places;
    other_places = λ other another. put-other u (old.places u + 1) old.places other another;
    own_emitted = put-own u false old.emitted;
    other_emitted = λ other another. put-other u false old.emitted other another;
    exits = λ place hub low. refl;
    own_closed = λ hub low.
        ap (λ (test : Hub → Bool). test hub) (put-own (old.places u + 1) (closed_next u old) old.closed)
        ∙ ap
        (λ (state : State).
        old.closed (old.places u + 1) hub || kind.closes state cycle (point_at (old.places u + 1)) hub)
        (sym (put-own u (sensed_here u old) old.units));
    other_closed = λ place hub low another.
        ap (λ (test : Hub → Bool). test hub)
        (put-other (old.places u + 1) (closed_next u old) old.closed place another);
  }

  -- a step that is taken
  record Taken (old : Served State) : Type 0 where
    step : Step
    new : Served State
    takes : Takes kind wiring cycle count step old new

  step_of : (old : Served State) (unit : ℕ) → CanStep wiring count old unit → Taken old
  step_of old unit can = elim can.may [
    | inl may ↦ record { step = emission unit; new = with_emission unit old; takes = (can.is_unit, emits_by unit old may) }
    | inr may ↦ record { step = sensing unit; new = with_sensing unit old; takes = (can.is_unit, senses_by unit old may) }
  ]

  -- the steps to the end, of which there are not more than are left
  record ToTheEnd (now : Served State) : Type 0 where
    steps : List Step
    last : Served State
    taken : Runs kind wiring cycle count steps now last
    over : AreOver count last

  stays : (now : Served State) → AreOver count now → ToTheEnd now
  unfolding Runs
  stays now over = record { steps = []; last = now; taken = refl; over = over }

  goes_on : (now : Served State) (one : Taken now) → ToTheEnd one.new → ToTheEnd now
  unfolding Runs
  goes_on now one rest =
      record { steps = one.step ∷ rest.steps; last = rest.last; taken = (one.new, one.takes, rest.taken); over = rest.over }

  to_the_end : (left : ℕ) (now : Served State) → IsWithin count now → 28 * count ≤ all_made now count + left → ToTheEnd now
  to_the_end zero now within enough = elim (some_step wiring count now within) [
    | inl over ↦ stays now over
    | inr can ↦
        let one = step_of now can.0 can.1 in
        let after = within_step kind wiring cycle count one.step now one.new one.takes within in
        let bound = all_made-bound kind wiring cycle count one.new after count (omega arith) in
        let more = one_more kind wiring cycle count one.step now one.new one.takes in
        absurd (omega (arith, enough, bound, more))
  ]
  to_the_end (suc left) now within enough = elim (some_step wiring count now within) [
    | inl over ↦ stays now over
    | inr can ↦
        let one = step_of now can.0 can.1 in
        let after = within_step kind wiring cycle count one.step now one.new one.takes within in
        let more = one_more kind wiring cycle count one.step now one.new one.takes in
        goes_on now one (to_the_end left one.new after (omega (arith, enough, more)))
  ]

pub units_go : (State : Type 0) → UnitsCanGoBySteps State
units_go State kind wiring cycle count units =
    let start = start_of kind wiring cycle count units in
    let starts = start_starts kind wiring cycle count units in
    let rest = to_the_end kind wiring cycle count (28 * count) start
    (within_at_start kind wiring cycle count units start starts) (omega arith) in
    record { steps = rest.steps; start = start; last = rest.last; starts = starts; taken = rest.taken; over = rest.over }
