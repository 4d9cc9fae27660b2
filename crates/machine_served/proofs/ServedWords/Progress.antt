-- While the cycle is not over for all, some unit can step: the one that has made the fewest steps.
use Rattle.std.proofs.Common.{◌≡◌, sym, refl, ℕ, zero, suc, ◌+◌, ◌*◌, ◌<◌, ◌≤◌, Bool, true, false, ◌⊎◌, inl, inr, subst, arith}
use Rattle.std.proofs.lemmas.Bool.{cases_eq, cases_lt}
use Rattle.hubs.specs.SetupsWords.Wiring.{Wiring}
use Rattle.machine_served.proofs.ServedWords.Counts.{IsWithin, made, one_if, one_if-low, one_if-some, one_if-true, within_at_start, within_by_steps}
use Rattle.machine_served.specs.ServedWords.Laws.{SomeUnitCanStep}
use Rattle.machine_served.specs.ServedWords.Steps.{AreOver, CanStep, HasEmitted, Served}
use Rattle.machine_served.specs.ServedWords.Units.{IsUnit}

-- a unit that has made as many steps as place and emission say, or more, has emitted at the place
pub emitted_by_count : {State : Type 0} (served : Served State) (unit place : ℕ) → 2 * place + 1 ≤ made served unit
    → HasEmitted served unit place
emitted_by_count served unit place enough = elim (cases_lt place (served.places unit)) [
  | inl before ↦ inl before
  | inr after ↦
      let low = one_if-low (served.emitted unit) in
      let here : served.places unit ≡ place = omega (arith, after, enough, low) in
      let some : 1 ≤ one_if (served.emitted unit) = omega (arith, here, enough) in
      inr (here, one_if-some (served.emitted unit) some)
]

-- a unit whose cycle is not over can step, where no other has made fewer steps by more than it takes
pub can_step_by_count : {State : Type 0} (wiring : Wiring) (count : ℕ) (served : Served State) (unit : ℕ) → IsUnit count unit
    → served.places unit < 14
    → (served.emitted unit ≡ true → (other : ℕ) → IsUnit count other → 2 * served.places unit + 1 ≤ made served other)
    → CanStep wiring count served unit
can_step_by_count {State} wiring count served unit is within enough = by (served.emitted unit) refl where
  by : (b : Bool) → served.emitted unit ≡ b → CanStep wiring count served unit
  by false silent = record { is_unit = is; may = inl (record { within = within; silent = silent }) }
  by true on = record {
    is_unit = is;
    may = inr (record {
      within = within;
      emitted = on;
      waited = λ other is_other waits. emitted_by_count served other (served.places unit) (enough on other is_other);
    });
  }

-- the unit that has made the fewest steps
record Fewest {State : Type 0} (served : Served State) (count : ℕ) : Type 0 where
  unit : ℕ
  is_unit : IsUnit count unit
  fewest : (other : ℕ) → IsUnit count other → made served unit ≤ made served other

fewest_of : {State : Type 0} (served : Served State) (count : ℕ) → Fewest served (suc count)
fewest_of served zero = record {
  unit = 1;
  is_unit = (omega arith, omega arith);
  fewest = λ other is.
      let same : other ≡ 1 = omega (arith, is.0, is.1) in
      subst (λ (n : ℕ). made served 1 ≤ made served n) (sym same) (omega arith);
}
fewest_of served (suc count) =
    let below = fewest_of served count in
    elim (cases_lt (made served below.unit) (made served (suc (suc count)))) [
      | inl less ↦ record {
        unit = below.unit;
        is_unit = (below.is_unit.0, omega (arith, below.is_unit.1));
        fewest = λ other is. elim (cases_eq other (suc (suc count))) [
          | inl same ↦
              subst (λ (n : ℕ). made served below.unit ≤ made served n) (sym same) (omega (arith, less))
          | inr lower ↦ below.fewest other (is.0, omega (arith, is.1, lower))
        ];
      }
      | inr more ↦ record {
        unit = suc (suc count);
        is_unit = (omega arith, omega arith);
        fewest = λ other is. elim (cases_eq other (suc (suc count))) [
          | inl same ↦
              subst (λ (n : ℕ). made served (suc (suc count)) ≤ made served n) (sym same) (omega arith)
          | inr lower ↦ omega (arith, more, below.fewest other (is.0, omega (arith, is.1, lower)))
        ];
      }
    ]

-- where it is over for the unit with the fewest steps, it is over for all
pub over_by_fewest : {State : Type 0} (count : ℕ) (served : Served State) → IsWithin count served → (n : ℕ) → 28 ≤ n
    → ((unit : ℕ) → IsUnit count unit → n ≤ made served unit) → AreOver count served
over_by_fewest count served within n enough all unit is =
    omega (arith, all unit is, within.places unit is, one_if-low (served.emitted unit), enough)

pub some_step : {State : Type 0} (wiring : Wiring) (count : ℕ) (now : Served State) → IsWithin count now
    → AreOver count now ⊎ ((unit : ℕ) × CanStep wiring count now unit)
some_step wiring zero now within = inl (λ unit is. absurd (omega (arith, is.0, is.1)))
some_step wiring (suc count) now within =
    let few = fewest_of now count in
    elim (cases_lt (now.places few.unit) 14) [
      | inl low ↦
          inr (
            few.unit,
            can_step_by_count wiring (suc count) now few.unit few.is_unit low
                (λ on other is. omega (arith, few.fewest other is, one_if-true (now.emitted few.unit) on)),
          )
      | inr over ↦
          inl (over_by_fewest (suc count) now within (made now few.unit) (omega (arith, over)) few.fewest)
    ]

pub some_unit_steps : (State : Type 0) → SomeUnitCanStep State
some_unit_steps State kind wiring cycle count units steps start now starts runs =
    some_step wiring count now
    (within_by_steps kind wiring cycle count steps start now runs (within_at_start kind wiring cycle count units start starts))
