-- Steps, turns and rounds taken so far, with what was seen in them.
use Rattle.std.proofs.Common.{◌≡◌, ◌∙◌, ◌↔◌, sym, refl, ℕ, suc, ◌+◌, ◌-◌, ◌≤◌, true, inl, inr, List, [], ◌∷◌, subst, arith}
use Rattle.std.proofs.lemmas.Bool.{false≢true}
use Rattle.net.specs.HubSets.{is_bit}
use Rattle.net.specs.declared.cycle.Cycle.{Cycle}
use Rattle.machine_served.specs.ServedWords.Rounds.{AreStepsOf, Round, Rounds}
use Rattle.machine_served.specs.ServedWords.Steps.{AreOver, CanStep, Emits, HasEmitted, Runs, Served, Step}
use Rattle.machine_served.specs.ServedWords.Steps.Step.{emission, sensing}
use Rattle.machine_served.specs.ServedWords.Units.{IsUnit}
use Rattle.machine_served.specs.ServedWords.Waits.{WaitsFor}
use Rattle.machine_served.specs.ServedRuns.Runs.{order_of, orders_from}
use Rattle.machine_served.specs.ServedRuns.Seen.{RoundIs, RoundSees, RoundsSee, SensesSo, StepsSee, TurnSees}
use Rattle.machine_served.specs.ServedUnits.AnyUnit.{AnyUnit, any_kind}
use Rattle.hubs.specs.SetupsWords.Wiring.{Wiring}
use Rattle.machine_served.specs.WaitsWords.Waits.{AreWaits}
use Rattle.std.proofs.Common.{slice_index_or}

module _ (wiring : Wiring) (cycle : Cycle) where
  -- steps of a unit, in which so much is seen
  pub record Taken (unit : ℕ) (old new : Served AnyUnit) (seen : ℕ) : Type 0 where
    pub steps : List Step
    pub own : AreStepsOf unit steps
    pub taken : Runs any_kind wiring cycle 45 steps old new
    pub sees : StepsSee wiring cycle steps old new taken seen

  -- with what is taken from now on so much is seen in all
  abbrev pub TakenSoFar : ℕ → Served AnyUnit → Served AnyUnit → ℕ → Type 0
  TakenSoFar unit old now seen =
      (last : Served AnyUnit) (more : ℕ) → Taken unit now last more → Taken unit old last (seen + more)

  pub taken_none : (unit : ℕ) (old : Served AnyUnit) → TakenSoFar unit old old 0
  taken_none unit old last more taken =
      let e : more ≡ 0 + more = omega arith in
      subst (λ (n : ℕ). Taken unit old last n) e taken

  pub taken_emission : (unit : ℕ) (old now mid : Served AnyUnit) (seen : ℕ) → IsUnit 45 unit → Emits any_kind cycle unit now mid
      → TakenSoFar unit old now seen → TakenSoFar unit old mid seen
  unfolding Runs StepsSee
  taken_emission unit old now mid seen is emits so last more taken =
      so last more (record {
        steps = emission unit ∷ taken.steps;
        own = (refl, taken.own);
        taken = (mid, (is, emits), taken.taken);
        sees = taken.sees;
      })

  pub taken_sensing : (unit : ℕ) (old now mid : Served AnyUnit) (seen size : ℕ) → IsUnit 45 unit
      → SensesSo wiring cycle unit now mid size → TakenSoFar unit old now seen → TakenSoFar unit old mid (seen + size)
  unfolding Runs StepsSee
  taken_sensing unit old now mid seen size is senses so last more taken =
      let e : seen + (size + more) ≡ seen + size + more = omega arith in
      subst (λ (n : ℕ). Taken unit old last n) e
      (so last (size + more) (record {
        steps = sensing unit ∷ taken.steps;
        own = (refl, taken.own);
        taken = (mid, (is, senses.senses), taken.taken);
        sees = (size, more, senses.size, taken.sees, refl);
      }))

  -- a turn ends where its unit can take no step more
  pub turn_of : (unit : ℕ) (old now : Served AnyUnit) (seen : ℕ) → TakenSoFar unit old now seen
      → (CanStep wiring 45 now unit → ⊥) → TurnSees wiring cycle unit old now seen
  unfolding Runs StepsSee
  turn_of unit old now seen so stops =
      let all = so now 0 (record { steps = []; own = tt; taken = refl; sees = refl }) in
      let e : seen + 0 ≡ seen = omega arith in
      record {
        steps = all.steps;
        turn = record { own = all.own; taken = all.taken; stops = stops };
        sees = subst (λ (n : ℕ). StepsSee wiring cycle all.steps old now all.taken n) e all.sees;
      }

  pub over_stops : (unit : ℕ) (now : Served AnyUnit) → 14 ≤ now.places unit → CanStep wiring 45 now unit → ⊥
  over_stops unit now over can = elim can.may [
    | inl may ↦ absurd (omega (arith, over, may.within))
    | inr may ↦ absurd (omega (arith, over, may.within))
  ]

  pub waiting_stops : (unit : ℕ) (now : Served AnyUnit) → now.emitted unit ≡ true
      → (((other : ℕ) → IsUnit 45 other → WaitsFor wiring unit other → HasEmitted now other (now.places unit)) → ⊥)
      → CanStep wiring 45 now unit → ⊥
  waiting_stops unit now on waits can = elim can.may [
    | inl may ↦ absurd (false≢true (sym may.silent ∙ on))
    | inr may ↦ waits may.waited
  ]

  -- rounds so far: the units of an order that have had their turns
  abbrev pub RoundSoFar : List ℕ → List ℕ → Served AnyUnit → Served AnyUnit → ℕ → Type 0
  RoundSoFar order left old now seen =
      (last : Served AnyUnit) (more : ℕ) → RoundIs wiring cycle left now last more → RoundIs wiring cycle order old last (seen + more)

  pub round_none : (order : List ℕ) (old : Served AnyUnit) → RoundSoFar order order old old 0
  round_none order old last more round =
      let e : more ≡ 0 + more = omega arith in
      subst (λ (n : ℕ). RoundIs wiring cycle order old last n) e round

  pub round_turn : (order left others : List ℕ) (unit : ℕ) (old now mid : Served AnyUnit) (seen first : ℕ) → left ≡ unit ∷ others
      → TurnSees wiring cycle unit now mid first → RoundSoFar order left old now seen → RoundSoFar order others old mid (seen + first)
  unfolding Round RoundSees
  round_turn order left others unit old now mid seen first is turn so last more rest =
      let e : seen + (first + more) ≡ seen + first + more = omega arith in
      subst (λ (n : ℕ). RoundIs wiring cycle order old last n) e
      (so last (first + more)
      (subst (λ (units : List ℕ). RoundIs wiring cycle units now last (first + more)) (sym is)
      (record { round = (mid, turn.steps, turn.turn, rest.round); sees = (first, more, turn.sees, rest.sees, refl) })))

  pub round_of : (order left : List ℕ) (old now : Served AnyUnit) (seen : ℕ) → left ≡ [] → RoundSoFar order left old now seen
      → RoundIs wiring cycle order old now seen
  unfolding Round RoundSees
  round_of order left old now seen is so =
      let e : seen + 0 ≡ seen = omega arith in
      subst (λ (n : ℕ). RoundIs wiring cycle order old now n) e
      (so now 0
      (subst (λ (units : List ℕ). RoundIs wiring cycle units now now 0) (sym is) (record { round = refl; sees = refl })))

  -- rounds of a cycle, in which so much is seen
  pub record RoundsAre (orders : List (List ℕ)) (old new : Served AnyUnit) (seen : ℕ) : Type 0 where
    pub rounds : Rounds any_kind wiring cycle 45 orders old new
    pub sees : RoundsSee wiring cycle orders old new rounds seen

  -- so many rounds are taken, by the orders of a service from one on
  abbrev pub RoundsSoFar : List (List ℕ) → ℕ → ℕ → Served AnyUnit → Served AnyUnit → ℕ → Type 0
  RoundsSoFar service from rounds old now seen =
      (others : ℕ) (last : Served AnyUnit) (more : ℕ) → RoundsAre (orders_from service (from + rounds) others) now last more
      → RoundsAre (orders_from service from (rounds + others)) old last (seen + more)

  moved : (service : List (List ℕ)) (one other count also : ℕ) (old new : Served AnyUnit) (seen same : ℕ) → one ≡ other → count ≡ also
      → seen ≡ same → RoundsAre (orders_from service one count) old new seen → RoundsAre (orders_from service other also) old new same
  moved service one other count also old new seen same e f g rounds =
      subst (λ (n : ℕ). RoundsAre (orders_from service other also) old new n) g
      (subst (λ (n : ℕ). RoundsAre (orders_from service other n) old new seen) f
      (subst (λ (n : ℕ). RoundsAre (orders_from service n count) old new seen) e rounds))

  pub rounds_none : (service : List (List ℕ)) (from : ℕ) (old : Served AnyUnit) → RoundsSoFar service from 0 old old 0
  rounds_none service from old others last more rounds =
      moved service (from + 0) from others (0 + others) old last more (0 + more) (omega arith) (omega arith) (omega arith) rounds

  pub rounds_more : (service : List (List ℕ)) (from rounds : ℕ) (old now mid : Served AnyUnit) (seen first : ℕ)
      → (AreOver 45 now → ⊥) → RoundIs wiring cycle (order_of service (from + rounds)) now mid first
      → RoundsSoFar service from rounds old now seen → RoundsSoFar service from (rounds + 1) old mid (seen + first)
  unfolding Rounds RoundsSee orders_from
  rounds_more service from rounds old now mid seen first before round so others last more rest =
      let after = moved service (from + (rounds + 1)) (from + rounds + 1) others others mid last more more (omega arith) refl refl rest in
      moved service from from (rounds + suc others) (rounds + 1 + others) old last (seen + (first + more)) (seen + first + more) refl
      (omega arith) (omega arith)
      (so (suc others) last (first + more) (record {
        rounds = (mid, before, round.round, after.rounds);
        sees = (first, more, round.sees, after.sees, refl);
      }))

  pub rounds_of : (service : List (List ℕ)) (from rounds : ℕ) (old now : Served AnyUnit) (seen : ℕ) → AreOver 45 now
      → RoundsSoFar service from rounds old now seen → RoundsAre (orders_from service from rounds) old now seen
  unfolding Rounds RoundsSee orders_from
  rounds_of service from rounds old now seen over so =
      moved service from from (rounds + 0) rounds old now (seen + 0) seen refl (omega arith) (omega arith)
      (so 0 now 0 (record { rounds = (over, refl); sees = refl }))

-- the bits of a panel's words are what a unit waits for
pub waits_by : (wiring : Wiring) (waits : List ℕ) (unit other : ℕ) → AreWaits wiring waits → IsUnit 45 unit → IsUnit 45 other
    → (is_bit (slice_index_or waits (unit - 1) 0) (other - 1) ≡ true) ↔ WaitsFor wiring unit other
waits_by wiring waits unit other are is is_other =
    let one : unit - 1 + 1 ≡ unit = omega (arith, is.0) in
    let two : other - 1 + 1 ≡ other = omega (arith, is_other.0) in
    let own = are (unit - 1) (omega (arith, is.0), omega (arith, is.1)) (other - 1) in (
      λ on.
          subst (λ (u : ℕ). WaitsFor wiring u other) one
          (subst (λ (v : ℕ). WaitsFor wiring (unit - 1 + 1) v) two (own.0 on).1),
      λ waits_for.
          own.1 (
            (omega (arith, is_other.0), omega (arith, is_other.1)),
            subst (λ (u : ℕ). WaitsFor wiring u (other - 1 + 1)) (sym one)
                (subst (λ (v : ℕ). WaitsFor wiring unit v) (sym two) waits_for),
          ),
    )
