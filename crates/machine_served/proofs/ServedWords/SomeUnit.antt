-- Some unit passes a test; and units keep their numbers through a cycle.
use Rattle.std.proofs.Common.{◌≡◌, ◌∙◌, ap, sym, ℕ, zero, suc, ◌≤◌, Bool, true, inl, inr, arith}
use Rattle.std.proofs.Math.Numerals.{add-one}
use Rattle.std.proofs.lemmas.Bool.{cases_eq, false≢true, or_cases, or_left, or_right}
use Rattle.hubs.specs.SetupsWords.Wiring.{Wiring}
use Rattle.net.specs.Cycles.{point_at}
use Rattle.net.specs.declared.cycle.Cycle.{Cycle}
use Rattle.machine_served.specs.ServedWords.Cycles.{IsAtOnce}
use Rattle.net.specs.Units.{KeepsToItsOwn, Kind}
use Rattle.machine_served.specs.ServedWords.Units.{AreNumbered, IsUnit, some_unit}

-- a unit that passes a test
pub record Found (test : ℕ → Bool) (count : ℕ) : Type 0 where
  pub unit : ℕ
  pub is_unit : IsUnit count unit
  pub passes : test unit ≡ true

-- where some unit passes the test, there is one
pub some_unit-found : (test : ℕ → Bool) (count : ℕ) → some_unit test count ≡ true → Found test count
unfolding some_unit
some_unit-found test zero on = absurd (false≢true on)
some_unit-found test (suc count) on = elim (or_cases (some_unit test count) (test (suc count)) on) [
  | inl below ↦
      let found = some_unit-found test count below in
      record { unit = found.unit; is_unit = (found.is_unit.0, omega (arith, found.is_unit.1)); passes = found.passes }
  | inr top ↦ record { unit = suc count; is_unit = (omega arith, omega arith); passes = top }
]

-- and where there is one, some unit does
pub some_unit-holds : (test : ℕ → Bool) (count unit : ℕ) → IsUnit count unit → test unit ≡ true → some_unit test count ≡ true
unfolding some_unit
some_unit-holds test zero unit is on = absurd (omega (arith, is.0, is.1))
some_unit-holds test (suc count) unit is on = elim (cases_eq unit (suc count)) [
  | inl same ↦ or_right (some_unit test count) (test (suc count)) (ap test (sym same) ∙ on)
  | inr other ↦
      or_left (some_unit test count) (test (suc count))
      (some_unit-holds test count unit (is.0, omega (arith, other, is.1)) on)
]

-- each unit stands in a state of its number through the whole cycle
pub states_numbered :
    {State : Type 0} (kind : Kind State) (wiring : Wiring) (cycle : Cycle) (count : ℕ) (states : ℕ → ℕ → State)
    → KeepsToItsOwn kind → IsAtOnce kind wiring cycle count states → (place : ℕ) → place ≤ 14
    → AreNumbered kind count (states place)
states_numbered kind wiring cycle count states own course zero low unit is = course.numbered unit is
states_numbered kind wiring cycle count states own course (suc place) low unit is =
    let before = states_numbered kind wiring cycle count states own course place (omega (arith, low)) unit is in
    ap (λ (p : ℕ). kind.number (states p unit)) (sym (add-one place))
    ∙ ap kind.number (course.sensed place unit (omega (arith, low)) is)
    ∙ own.keeps_number (states place unit) cycle (point_at place) (course.pictures place)
    ∙ before
