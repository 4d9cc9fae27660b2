-- How many steps each unit has made, and how many all have made.
use Rattle.std.proofs.Common.{◌≡◌, ◌∙◌, ap, sym, refl, ℕ, zero, suc, ◌+◌, ◌*◌, ◌<◌, ◌≤◌, Bool, true, false, inl, inr, List, [], ◌∷◌, length, subst, arith}
use Rattle.std.proofs.lemmas.Bool.{cases_eq, false≢true}
use Rattle.hubs.specs.SetupsWords.Wiring.{Wiring}
use Rattle.net.specs.declared.cycle.Cycle.{Cycle}
use Rattle.machine_served.specs.ServedWords.Laws.{CyclesHaveTheirSteps}
use Rattle.machine_served.specs.ServedWords.Steps.{AreOver, Emits, Runs, Senses, Served, Starts, Step, Takes}
use Rattle.machine_served.specs.ServedWords.Steps.Step.{emission, sensing}
use Rattle.net.specs.Units.{Kind}
use Rattle.machine_served.specs.ServedWords.Units.{IsUnit}

-- one where a unit has emitted at its point
pub one_if : Bool → ℕ
one_if true = 1
one_if false = 0

pub one_if-low : (b : Bool) → one_if b ≤ 1
unfolding one_if
one_if-low true = omega arith
one_if-low false = omega arith

pub one_if-true : (b : Bool) → b ≡ true → one_if b ≡ 1
unfolding one_if
one_if-true b on = ap one_if on

pub one_if-false : (b : Bool) → b ≡ false → one_if b ≡ 0
unfolding one_if
one_if-false b off = ap one_if off

pub one_if-some : (b : Bool) → 1 ≤ one_if b → b ≡ true
unfolding one_if
one_if-some true some = refl
one_if-some false some = absurd (omega (arith, some))

-- the steps that a unit has made: two at each point that lies after it, and one where it has emitted
abbrev pub made : {State : Type 0} → Served State → ℕ → ℕ
made served unit = 2 * served.places unit + one_if (served.emitted unit)

-- No unit goes beyond the closing point, and none emits there again.
pub record IsWithin {State : Type 0} (count : ℕ) (served : Served State) : Type 0 where
  pub places : (unit : ℕ) → IsUnit count unit → served.places unit ≤ 14
  pub emitted : (unit : ℕ) → IsUnit count unit → served.emitted unit ≡ true → served.places unit < 14

-- A step of a unit is one more that it has made, and none more of any other.
pub record IsOneMore {State : Type 0} (unit : ℕ) (old new : Served State) : Type 0 where
  pub own : made new unit ≡ made old unit + 1
  pub others : (other : ℕ) → (other ≡ unit → ⊥) → made new other ≡ made old other

-- the steps that the units up to a count have made
pub all_made : {State : Type 0} → Served State → ℕ → ℕ
all_made served zero = 0
all_made served (suc count) = all_made served count + made served (suc count)

module _ {State : Type 0} (kind : Kind State) (wiring : Wiring) (cycle : Cycle) (count : ℕ) where
  pub within_at_start : (units : ℕ → State) (start : Served State) → Starts kind cycle count units start → IsWithin count start
  within_at_start units start starts = record {
    places = λ unit is. omega (arith, starts.places unit is);
    emitted = λ unit is on. absurd (false≢true (sym (starts.emitted unit is) ∙ on));
  }

  within_emission : (u : ℕ) (old new : Served State) → Emits kind cycle u old new → IsWithin count old → IsWithin count new
  within_emission u old new emits within = record {
    places = λ unit is. omega (arith, emits.places unit, within.places unit is);
    emitted = λ unit is on. elim (cases_eq unit u) [
      | inl self ↦
          subst (λ (n : ℕ). new.places n < 14) (sym self) (omega (arith, emits.places u, emits.allowed.within))
      | inr another ↦
          let before = within.emitted unit is (sym (emits.other_emitted unit another) ∙ on) in
          omega (arith, emits.places unit, before)
    ];
  }

  within_sensing : (u : ℕ) (old new : Served State) → Senses kind wiring cycle count u old new → IsWithin count old
      → IsWithin count new
  within_sensing u old new senses within = record {
    places = λ unit is. elim (cases_eq unit u) [
      | inl self ↦
          subst (λ (n : ℕ). new.places n ≤ 14) (sym self) (omega (arith, senses.own_place, senses.allowed.within))
      | inr another ↦ omega (arith, senses.other_places unit another, within.places unit is)
    ];
    emitted = λ unit is on. elim (cases_eq unit u) [
      | inl self ↦
          let silent : new.emitted unit ≡ false = ap new.emitted self ∙ senses.own_emitted in
          absurd (false≢true (sym silent ∙ on))
      | inr another ↦
          let before = within.emitted unit is (sym (senses.other_emitted unit another) ∙ on) in
          omega (arith, senses.other_places unit another, before)
    ];
  }

  grown : (u : ℕ) (old new : Served State) → IsOneMore u old new → (unit : ℕ) → made old unit ≤ made new unit
  grown u old new more unit = elim (cases_eq unit u) [
    | inl self ↦
        subst (λ (n : ℕ). made old n ≤ made new n) (sym self) (omega (arith, more.own))
    | inr another ↦ omega (arith, more.others unit another)
  ]

  emission_more : (u : ℕ) (old new : Served State) → Emits kind cycle u old new → IsOneMore u old new
  emission_more u old new emits = record {
    own =
        omega (
          arith,
          emits.places u,
          one_if-true (new.emitted u) emits.own_emitted,
          one_if-false (old.emitted u) emits.allowed.silent,
        );
    others = λ other another. omega (arith, emits.places other, ap one_if (emits.other_emitted other another));
  }

  sensing_more : (u : ℕ) (old new : Served State) → Senses kind wiring cycle count u old new → IsOneMore u old new
  sensing_more u old new senses = record {
    own =
        omega (
          arith,
          senses.own_place,
          one_if-false (new.emitted u) senses.own_emitted,
          one_if-true (old.emitted u) senses.allowed.emitted,
        );
    others = λ other another. omega (arith, senses.other_places other another, ap one_if (senses.other_emitted other another));
  }

  -- no step takes a step of any unit back
  pub made-more : (step : Step) (old new : Served State) → Takes kind wiring cycle count step old new → (unit : ℕ)
      → made old unit ≤ made new unit
  made-more (emission u) old new takes unit = grown u old new (emission_more u old new takes.1) unit
  made-more (sensing u) old new takes unit = grown u old new (sensing_more u old new takes.1) unit

  pub within_by_steps : (steps : List Step) (old new : Served State) → Runs kind wiring cycle count steps old new
      → IsWithin count old → IsWithin count new
  unfolding Runs
  within_by_steps [] old new same within = subst (IsWithin count) (sym same) within
  within_by_steps (emission unit ∷ steps) old new run within =
      within_by_steps steps run.0 new run.2 (within_emission unit old run.0 run.1.1 within)
  within_by_steps (sensing unit ∷ steps) old new run within =
      within_by_steps steps run.0 new run.2 (within_sensing unit old run.0 run.1.1 within)

  -- none of the units up to a lower count makes a step that one above makes
  all_made-same : (n u : ℕ) (old new : Served State) → IsOneMore u old new → n < u → all_made new n ≡ all_made old n
  unfolding all_made
  all_made-same zero u old new more above = refl
  all_made-same (suc n) u old new more above =
      omega (
        arith,
        all_made-same n u old new more (omega (arith, above)),
        more.others (suc n) (λ same. omega (arith, same, above)),
      )

  all_made-more : (n u : ℕ) (old new : Served State) → IsOneMore u old new → IsUnit n u
      → all_made new n ≡ all_made old n + 1
  unfolding all_made
  all_made-more zero u old new more is = absurd (omega (arith, is.0, is.1))
  all_made-more (suc n) u old new more is = elim (cases_eq u (suc n)) [
    | inl top ↦
        let own : made new (suc n) ≡ made old (suc n) + 1 =
        subst (λ (m : ℕ). made new m ≡ made old m + 1) top more.own in
        omega (arith, all_made-same n u old new more (omega (arith, top)), own)
    | inr below ↦
        omega (
          arith,
          all_made-more n u old new more (is.0, omega (arith, is.1, below)),
          more.others (suc n) (λ same. below (sym same)),
        )
  ]

  pub within_step : (step : Step) (old new : Served State) → Takes kind wiring cycle count step old new → IsWithin count old
      → IsWithin count new
  within_step (emission u) old new takes within = within_emission u old new takes.1 within
  within_step (sensing u) old new takes within = within_sensing u old new takes.1 within

  pub one_more : (step : Step) (old new : Served State) → Takes kind wiring cycle count step old new
      → all_made new count ≡ all_made old count + 1
  one_more (emission u) old new takes = all_made-more count u old new (emission_more u old new takes.1) takes.0
  one_more (sensing u) old new takes = all_made-more count u old new (sensing_more u old new takes.1) takes.0

  pub all_made-by_steps : (steps : List Step) (old new : Served State) → Runs kind wiring cycle count steps old new
      → all_made new count ≡ all_made old count + length steps
  unfolding Runs
  all_made-by_steps [] old new same = omega (arith, ap (λ (s : Served State). all_made s count) same)
  all_made-by_steps (emission unit ∷ steps) old new run =
      omega (
        arith,
        all_made-by_steps steps run.0 new run.2,
        all_made-more count unit old run.0 (emission_more unit old run.0 run.1.1) run.1.0,
      )
  all_made-by_steps (sensing unit ∷ steps) old new run =
      omega (
        arith,
        all_made-by_steps steps run.0 new run.2,
        all_made-more count unit old run.0 (sensing_more unit old run.0 run.1.1) run.1.0,
      )

  -- where each unit has made as many steps
  all_made-each : (served : Served State) (n each : ℕ) → ((unit : ℕ) → IsUnit n unit → made served unit ≡ each)
      → all_made served n ≡ each * n
  unfolding all_made
  all_made-each served zero each same = omega arith
  all_made-each served (suc n) each same =
      let below = all_made-each served n each (λ unit is. same unit (is.0, omega (arith, is.1))) in
      let top = same (suc n) (omega arith, omega arith) in
      product (all_made served n) (made served (suc n)) each n below top
    where
      product : (a b e m : ℕ) → a ≡ e * m → b ≡ e → a + b ≡ e * suc m
      product a b e m below top = omega (arith, below, top)

  made-start : (units : ℕ → State) (start : Served State) → Starts kind cycle count units start → (unit : ℕ)
      → IsUnit count unit → made start unit ≡ 0
  made-start units start starts unit is =
      omega (arith, starts.places unit is, one_if-false (start.emitted unit) (starts.emitted unit is))

  silent_in_the_end : (last : Served State) → IsWithin count last → (unit : ℕ) → IsUnit count unit → last.places unit ≡ 14
      → last.emitted unit ≡ false
  silent_in_the_end last within unit is over = by (last.emitted unit) refl where
    by : (b : Bool) → last.emitted unit ≡ b → last.emitted unit ≡ false
    by false silent = silent
    by true on = absurd (omega (arith, over, within.emitted unit is on))

  made-last : (last : Served State) → IsWithin count last → AreOver count last → (unit : ℕ) → IsUnit count unit
      → made last unit ≡ 28
  made-last last within over unit is =
      omega (arith, over unit is, one_if-false (last.emitted unit) (silent_in_the_end last within unit is (over unit is)))

  made-bound : (served : Served State) → IsWithin count served → (unit : ℕ) → IsUnit count unit → made served unit ≤ 28
  made-bound served within unit is = elim (cases_eq (served.places unit) 14) [
    | inl over ↦
        omega (arith, over, one_if-false (served.emitted unit) (silent_in_the_end served within unit is over))
    | inr before ↦
        omega (arith, before, within.places unit is, one_if-low (served.emitted unit))
  ]

  pub all_made-bound : (served : Served State) → IsWithin count served → (n : ℕ) → n ≤ count → all_made served n ≤ 28 * n
  unfolding all_made
  all_made-bound served within zero low = omega arith
  all_made-bound served within (suc n) low =
      let below = all_made-bound served within n (omega (arith, low)) in
      let top = made-bound served within (suc n) (omega arith, low) in
      omega (arith, below, top)

-- a cycle has two steps of each unit at each point
pub cycles_have_steps : (State : Type 0) → CyclesHaveTheirSteps State
cycles_have_steps State kind wiring cycle count units steps start last starts runs over =
    let within = within_by_steps kind wiring cycle count steps start last runs
    (within_at_start kind wiring cycle count units start starts) in
    let none : all_made start count ≡ 0 * count =
    all_made-each kind wiring cycle count start count 0 (made-start kind wiring cycle count units start starts) in
    let all : all_made last count ≡ 28 * count =
    all_made-each kind wiring cycle count last count 28 (made-last kind wiring cycle count last within over) in
    omega (arith, none, all, all_made-by_steps kind wiring cycle count steps start last runs)
