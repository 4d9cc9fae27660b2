-- Counters that are enough for totals.
use Rattle.std.proofs.Common.{◌≡◌, ℕ, suc, zero, ◌≤◌, ◌&&◌, Bool, true, false, IsTrue, List, [], ◌∷◌, Some, length, slice_get, refl, sym, ap, ◌∙◌, arith, ◌↔◌}
use Rattle.std.proofs.lemmas.Bool.Decides.{nat_tests}
use Rattle.chart_plans.specs.PlansWords.Counters.{IsEnoughFor}
use Rattle.chart_plans.specs.declared.plans.counter.TotalCounter.{TotalCounter}
use Rattle.chart_plans.specs.declared.plans.counter.TotalCounter.TheVariants as of
use Rattle.chart_plans.specs.declared.wanted.total.Total.{Total}
use Rattle.capacity.specs.Capacities.{Capacities}
use Rattle.chart_plans.specs.PlansWords.Assignments.{IsAssignment}
use Rattle.chart_plans.specs.PlansWords.HelperEnough.{are_enough, is_enough, AreOwn}

-- where the test of a counter passes, it is enough
IsEnoughFor-test : (need : ℕ) (counter : TotalCounter) → is_enough need counter ≡ true → IsEnoughFor need counter
IsEnoughFor-test need (of.Single group) holds = grind (arith, nat_tests)
IsEnoughFor-test need (of.Coupled lower upper) holds = record {
  from = grind (arith, nat_tests, holds);
  to = grind (arith, nat_tests, holds);
  lower_width = grind (arith, nat_tests, holds);
  upper_width = grind (arith, nat_tests, holds);
  order = grind (arith, nat_tests, holds);
}

-- where a counter is enough, its test passes
is_enough-holds : (need : ℕ) (counter : TotalCounter) → IsEnoughFor need counter → is_enough need counter ≡ true
is_enough-holds need (of.Single group) holds = grind (arith, nat_tests)
is_enough-holds need (of.Coupled lower upper) holds =
    let from = holds.from in let to = holds.to in let lower_width = holds.lower_width in
    let upper_width = holds.upper_width in let order = holds.order in
    grind (arith, nat_tests)

both-true : (a b : Bool) → (a && b) ≡ true → (a ≡ true) × (b ≡ true)
both-true true b both = (refl, both)
both-true false b both = cc

-- what are_enough tells, place by place
pub record AreEnough (totals : List Total) (counters : List TotalCounter) : Type 0 where
  pub many : length counters ≡ length totals
  pub enough :
      (place : ℕ) (total : Total) (counter : TotalCounter) → slice_get totals place ≡ Some total
      → slice_get counters place ≡ Some counter → IsEnoughFor total.need counter

-- where the test passes, each counter is enough for its total
pub AreEnough-test : (totals : List Total) (counters : List TotalCounter) → are_enough totals counters ≡ true → AreEnough totals counters
AreEnough-test [] [] h = record { many = refl; enough = λ place total counter at here. cc (at) }
AreEnough-test [] (counter ∷ counters) h = absurd (cc)
AreEnough-test (total ∷ totals) [] h = absurd (cc)
AreEnough-test (total ∷ totals) (counter ∷ counters) h =
    let (first_enough, others_enough) = both-true (is_enough total.need counter) (are_enough totals counters) h in
    let first = IsEnoughFor-test total.need counter first_enough in
    let others = AreEnough-test totals counters others_enough in
    record {
      many = ap suc others.many;
      enough = λ place. by first others.enough place;
    }
  where
    by : IsEnoughFor total.need counter
        → ((place : ℕ) (t : Total) (g : TotalCounter) → slice_get totals place ≡ Some t → slice_get counters place ≡ Some g → IsEnoughFor t.need g)
        → (place : ℕ) (t : Total) (g : TotalCounter) → slice_get (total ∷ totals) place ≡ Some t → slice_get (counter ∷ counters) place ≡ Some g → IsEnoughFor t.need g
    by first others zero t g at here = let same : total ≡ t = cc in let there : counter ≡ g = cc in rw (← same, ← there) first
    by first others (suc place) t g at here = others place t g at here

-- where each counter is enough for its total, the test passes
pub are_enough-holds : (totals : List Total) (counters : List TotalCounter) → AreEnough totals counters → are_enough totals counters ≡ true
are_enough-holds [] [] holds = refl
are_enough-holds [] (counter ∷ counters) holds = absurd (omega (arith, holds.many))
are_enough-holds (total ∷ totals) [] holds = absurd (omega (arith, holds.many))
are_enough-holds (total ∷ totals) (counter ∷ counters) holds =
    let first : IsEnoughFor total.need counter = holds.enough 0 total counter refl refl in
    let yes = is_enough-holds total.need counter first in
    let others = are_enough-holds totals counters (record { many = omega (arith, holds.many); enough = λ place t g at here. holds.enough (suc place) t g at here }) in
    ap (λ b. b && are_enough totals counters) yes ∙ others

-- the two tests of an assignment
pub IsAssignment-tests : (totals : List Total) (machine : Capacities) (counters : List TotalCounter) (own enough : Bool)
    → IsTrue own ↔ AreOwn machine counters → enough ≡ are_enough totals counters
    → IsTrue (own && enough) ↔ IsAssignment totals machine counters
IsAssignment-tests totals machine counters true enough owns is_enough = (
  (λ yes. let own = owns.0 refl in
      let all = AreEnough-test totals counters (sym is_enough ∙ yes) in
      record { many = all.many; there = own.there; enough = all.enough; own = own.own }),
  (λ assigned. is_enough ∙ are_enough-holds totals counters (record { many = assigned.many; enough = assigned.enough })),
)
IsAssignment-tests totals machine counters false enough owns is_enough = (
  (λ yes. absurd (let no : false ≡ true = yes in cc)),
  (λ assigned. owns.1 (record { there = assigned.there; own = assigned.own })),
)
