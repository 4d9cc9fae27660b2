-- Rounds are steps, and they are few: after each round every unit that is not over has made two more steps, but for one.
use Rattle.std.proofs.Common.{ap, sym, ℕ, suc, ◌+◌, ◌*◌, ◌<◌, ◌≤◌, ◌⊎◌, inl, inr, List, [], ◌∷◌, ◌++◌, All, Contains, length, subst, arith}
use Rattle.std.proofs.lemmas.Bool.{cases_eq, cases_lt}
use Rattle.std.proofs.lemmas.List.Elements.{All-head, All-tail}
use Rattle.std.proofs.lemmas.Map.Made.{Contains-tail}
use Rattle.hubs.specs.SetupsWords.Wiring.{Wiring}
use Rattle.net.specs.declared.cycle.Cycle.{Cycle}
use Rattle.machine_served.proofs.ServedWords.Counts.{IsWithin, made, made-more, one_if-true, within_at_start, within_by_steps}
use Rattle.machine_served.proofs.ServedWords.Progress.{can_step_by_count, over_by_fewest}
use Rattle.machine_served.specs.ServedWords.Laws.{RoundsAreFew, RoundsAreSteps}
use Rattle.machine_served.specs.ServedWords.Orders.{NamesAll}
use Rattle.machine_served.specs.ServedWords.Rounds.{Round, Rounds, Turn}
use Rattle.machine_served.specs.ServedWords.Steps.{AreOver, Runs, Served, Step}
use Rattle.net.specs.Units.{Kind}
use Rattle.machine_served.specs.ServedWords.Units.{IsUnit}

module _ {State : Type 0} (kind : Kind State) (wiring : Wiring) (cycle : Cycle) (count : ℕ) where
  -- steps, and then other steps
  pub Runs-append : (steps others : List Step) (old mid new : Served State) → Runs kind wiring cycle count steps old mid
      → Runs kind wiring cycle count others mid new → Runs kind wiring cycle count (steps ++ others) old new
  unfolding Runs
  Runs-append [] others old mid new same run = subst (λ (s : Served State). Runs kind wiring cycle count others s new) same run
  Runs-append (step ∷ steps) others old mid new first run =
      (first.0, first.1, Runs-append steps others first.0 mid new first.2 run)

  pub round_steps : (order : List ℕ) (old new : Served State) → Round kind wiring cycle count order old new
      → (steps : List Step) × Runs kind wiring cycle count steps old new
  unfolding Round Runs
  round_steps [] old new same = ([], same)
  round_steps (unit ∷ others) old new round =
      let rest = round_steps others round.0 new round.3 in
      (round.1 ++ rest.0, Runs-append round.1 rest.0 old round.0 new round.2.taken rest.1)

  pub rounds_steps : (orders : List (List ℕ)) (old new : Served State) → Rounds kind wiring cycle count orders old new
      → (steps : List Step) × Runs kind wiring cycle count steps old new × AreOver count new
  unfolding Rounds Runs
  rounds_steps [] old new over = ([], over.1, subst (AreOver count) (sym over.1) over.0)
  rounds_steps (order ∷ orders) old new rounds =
      let first = round_steps order old rounds.0 rounds.2 in
      let rest = rounds_steps orders rounds.0 new rounds.3 in
      (first.0 ++ rest.0, Runs-append first.0 rest.0 old rounds.0 new first.1 rest.1, rest.2)

  pub made-grows : (steps : List Step) (old new : Served State) → Runs kind wiring cycle count steps old new → (unit : ℕ)
      → made old unit ≤ made new unit
  unfolding Runs
  made-grows [] old new same unit = omega (arith, ap (λ (s : Served State). made s unit) same)
  made-grows (step ∷ steps) old new run unit =
      omega (arith, made-more kind wiring cycle count step old run.0 run.1 unit, made-grows steps run.0 new run.2 unit)

  -- a unit is over, or so many rounds ahead: it has made two steps for each, but for one
  pub IsAhead : ℕ → Served State → ℕ → Type 0
  IsAhead rounds served unit = (28 ≤ made served unit) ⊎ (2 * rounds ≤ made served unit + 1)

  pub ahead_none : (served : Served State) (unit : ℕ) → IsAhead 0 served unit
  unfolding IsAhead
  ahead_none served unit = inr (omega arith)

  stays_ahead : (rounds unit : ℕ) (old new : Served State) → made old unit ≤ made new unit → IsAhead rounds old unit
      → IsAhead rounds new unit
  unfolding IsAhead
  stays_ahead rounds unit old new grows (inl over) = inl (omega (arith, grows, over))
  stays_ahead rounds unit old new grows (inr ahead) = inr (omega (arith, grows, ahead))

  all_ahead_by : (rounds : ℕ) (steps : List Step) (old new : Served State) → Runs kind wiring cycle count steps old new
      → ((unit : ℕ) → IsUnit count unit → IsAhead rounds old unit) → (unit : ℕ) → IsUnit count unit → IsAhead rounds new unit
  all_ahead_by rounds steps old new runs all unit is =
      stays_ahead rounds unit old new (made-grows steps old new runs unit) (all unit is)

  -- enough steps of the others for a unit that is after
  enough_ahead : (rounds place other : ℕ) (served : Served State) → place < 14 → 2 * place + 1 ≤ 2 * rounds
      → IsAhead rounds served other → 2 * place + 1 ≤ made served other
  unfolding IsAhead
  enough_ahead rounds place other served low after (inl over) = omega (arith, low, over)
  enough_ahead rounds place other served low after (inr ahead) = omega (arith, after, ahead)

  -- a turn brings its unit a round further
  turn_ahead : (rounds unit : ℕ) (steps : List Step) (old new : Served State)
      → Turn kind wiring cycle count unit steps old new → IsUnit count unit
      → ((other : ℕ) → IsUnit count other → IsAhead rounds old other) → IsAhead (suc rounds) new unit
  unfolding IsAhead
  turn_ahead rounds unit steps old new turn is all = elim (cases_lt (made new unit) 28) [
    | inr over ↦ inl over
    | inl low ↦ elim (cases_lt (made new unit + 1) (2 * suc rounds)) [
      | inr ahead ↦ inr ahead
      | inl after ↦
          absurd (turn.stops (can_step_by_count wiring count new unit is (omega (arith, low))
          (λ on other is_other.
          enough_ahead rounds (new.places unit) other new (omega (arith, low))
          (omega (arith, after, one_if-true (new.emitted unit) on))
          (all_ahead_by rounds steps old new turn.taken all other is_other))))
    ]
  ]

  -- and so does a round for all units of its order
  pub round_ahead : (rounds : ℕ) (order : List ℕ) (old new : Served State) → Round kind wiring cycle count order old new
      → ((unit : ℕ) → IsUnit count unit → IsAhead rounds old unit) → (unit : ℕ) → IsUnit count unit → Contains order unit
      → IsAhead (suc rounds) new unit
  unfolding Round
  round_ahead rounds [] old new same all unit is among = absurd (omega (arith, among.1))
  round_ahead rounds (first ∷ others) old new round all unit is among =
      let all_after = all_ahead_by rounds round.1 old round.0 round.2.taken all in
      elim (cases_eq first unit) [
        | inl same ↦
            let turn : Turn kind wiring cycle count unit round.1 old round.0 =
            subst (λ (u : ℕ). Turn kind wiring cycle count u round.1 old round.0) same round.2 in
            let rest = round_steps others round.0 new round.3 in
            stays_ahead (suc rounds) unit round.0 new (made-grows rest.0 round.0 new rest.1 unit)
            (turn_ahead rounds unit round.1 old round.0 turn is all)
        | inr another ↦
            round_ahead rounds others round.0 new round.3 all_after unit is (Contains-tail first others unit another among)
      ]

  -- after fifteen rounds all are over
  pub over_after : (served : Served State) → IsWithin count served → ((unit : ℕ) → IsUnit count unit → IsAhead 15 served unit)
      → AreOver count served
  unfolding IsAhead
  over_after served within all = over_by_fewest count served within 28 (omega arith) (λ unit is. by unit (all unit is)) where
    by : (unit : ℕ) → IsAhead 15 served unit → 28 ≤ made served unit
    by unit (inl over) = over
    by unit (inr ahead) = omega (arith, ahead)

  few_rounds : (rounds : ℕ) (orders : List (List ℕ)) (old new : Served State) → All (NamesAll count) orders
      → Rounds kind wiring cycle count orders old new → IsWithin count old
      → ((unit : ℕ) → IsUnit count unit → IsAhead rounds old unit) → rounds ≤ 15 → rounds + length orders ≤ 15
  unfolding Rounds
  few_rounds rounds [] old new names run within all few = omega (arith, few)
  few_rounds rounds (order ∷ orders) old new names run within all few = elim (cases_eq rounds 15) [
    | inl last ↦
        absurd (run.1 (over_after old within
        (subst (λ (n : ℕ). (unit : ℕ) → IsUnit count unit → IsAhead n old unit) last all)))
    | inr before ↦
        let first = round_steps order old run.0 run.2 in
        let rest = few_rounds (suc rounds) orders run.0 new (All-tail (NamesAll count) order orders names) run.3
        (within_by_steps kind wiring cycle count first.0 old run.0 first.1 within)
        (λ unit is. round_ahead rounds order old run.0 run.2 all unit is (All-head (NamesAll count) order orders names unit is))
        (omega (arith, few, before)) in
        omega (arith, rest)
  ]

pub rounds_are_steps : (State : Type 0) → RoundsAreSteps State
rounds_are_steps State kind wiring cycle count orders start last rounds =
    rounds_steps kind wiring cycle count orders start last rounds

-- at the start each unit is as far as none of the rounds brings it
pub rounds_are_few : (State : Type 0) → RoundsAreFew State
unfolding IsAhead
rounds_are_few State kind wiring cycle count units orders start last names starts rounds =
    let few = few_rounds kind wiring cycle count 0 orders start last names rounds
    (within_at_start kind wiring cycle count units start starts) (λ unit is. inr (omega arith)) (omega arith) in
    omega (arith, few)
