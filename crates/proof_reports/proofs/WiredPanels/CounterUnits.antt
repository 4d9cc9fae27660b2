-- The counter groups of a machine stand in the order of their units, and each group of a plan is one of them.
use Rattle.std.proofs.Common.{◌≡◌, ◌∙◌, refl, sym, ap, subst, ℕ, suc, ◌+◌, ◌-◌, ◌*◌, ◌<◌, ◌≤◌, nat_le, Bool, true, false, List, [], ◌∷◌, Contains, Option, Some, None, option_map, length, map, ◌⊎◌, inl, inr, arith, if◌then◌else◌}
use Rattle.std.proofs.lemmas.Bool.Decides.{nat_tests}
use Rattle.std.specs.Prelude.{slice_index_or}
use Rattle.wiring_table.proofs.Below.chart_plans.PlansWords.CounterGroups.{width-cases}
use Rattle.wiring_table.specs.Below.chart_plans.PlansWords.Plans.{Lists, ServesChart}
use Rattle.wiring_table.specs.Below.capacity.Capacities.{HasGroup, standard, groups_of}
use Rattle.wiring_table.specs.Below.chart_lines.declared.charts.chart.Line.{Line}
use Rattle.proof_cycles.specs.Below.counters.Counters.{Counter, counter_number}
use Rattle.proof_cycles.proofs.Below.hubs.HubLemmas.{number_of-injective}
use Rattle.proof_cycles.specs.Below.hubs.Hubs.{number_of}
use Rattle.proof_cycles.specs.Below.hubs.HubTable.Places.{group_place, part_place, up_to, width_place}
use Rattle.proof_cycles.specs.Below.hubs.HubTable.Ranges.{is_within}
use Rattle.proof_cycles.specs.Below.hubs.declared.hub.Group.{Group}
use Rattle.proof_cycles.specs.Below.hubs.declared.hub.Hub.TheVariants.{PL}
use Rattle.proof_cycles.proofs.Below.machine.ClosedContacts.{AreFrom, are_from, group_units-up, unit_of-last}
use Rattle.proof_cycles.specs.Below.machine.Fields.{AreInUnitOrder}
use Rattle.proof_cycles.specs.Below.machine.Machine.{group_units}
use Rattle.proof_cycles.specs.Below.net.Panel.{unit_of, unit_after}
use Rattle.wiring_table.specs.Parts.{ServesTotal}
use Rattle.wiring_table.proofs.Groups.{serves-there}
use Rattle.wiring_table.proofs.Below.chart_lines.ChartsWords.Listed.{listed-after, listed-cases, listed-first}

-- a group of the standard machine is one of the units 3 and up
pub unit_there : (group : Group) → HasGroup standard (record { width = group.width; number = group.number }) → 3 ≤ unit_of group
unit_there group has =
    by group.width group.number has.from has.to (width-cases standard (record { width = group.width; number = group.number }) has)
  where
    placed : (w n k : ℕ) → width_place w ≡ Some (suc k) → 1 ≤ n → n ≤ 8 → 3 ≤ unit_after 2 (group_place w n)
    placed w n k width from to =
        let within : is_within n 8 ≡ true = grind (arith, nat_tests, from, to) in
        let number : up_to 8 n ≡ Some n = ap (λ b. if b then Some n else None) within in
        let is : unit_after 2 (group_place w n) ≡ 2 + ((suc k - 1) * 8 + n) =
        ap (λ p. unit_after 2 (part_place 8 p (up_to 8 n))) width ∙ ap (λ p. unit_after 2 (part_place 8 (Some (suc k)) p)) number in
        omega (arith, is, from)

    by : (w n : ℕ) → 1 ≤ n → n ≤ groups_of standard w → (w ≡ 8) ⊎ (w ≡ 6) ⊎ (w ≡ 4) ⊎ (w ≡ 3)
        → 3 ≤ unit_after 2 (group_place w n)
    by w n from to (inl e) = placed w n 3 (ap width_place e) from (subst (λ v. n ≤ groups_of standard v) e to)
    by w n from to (inr (inl e)) = placed w n 2 (ap width_place e) from (subst (λ v. n ≤ groups_of standard v) e to)
    by w n from to (inr (inr (inl e))) = placed w n 1 (ap width_place e) from (subst (λ v. n ≤ groups_of standard v) e to)
    by w n from to (inr (inr (inr e))) = placed w n 0 (ap width_place e) from (subst (λ v. n ≤ groups_of standard v) e to)

-- groups of one unit are one
pub one_unit : (one other : Group) → unit_of one ≡ unit_of other → 3 ≤ unit_of other → one ≡ other
one_unit one other same there =
    by (group_place one.width one.number) (group_place other.width other.number) refl refl same there
  where
    by : (p q : Option ℕ) → group_place one.width one.number ≡ p → group_place other.width other.number ≡ q
        → unit_after 2 p ≡ unit_after 2 q → 3 ≤ unit_after 2 q → one ≡ other
    by p None is and_is same there = absurd (omega (arith, there))
    by None (Some q) is and_is same there = absurd (omega (arith, same))
    by (Some p) (Some q) is and_is same there =
        let places : p ≡ q = omega (arith, same) in
        let first : number_of (PL one) ≡ Some (1268 + p) = ap (option_map (λ place. 1268 + place)) is in
        let second : number_of (PL other) ≡ Some (1268 + q) = ap (option_map (λ place. 1268 + place)) and_is in
        let hubs : PL one ≡ PL other =
        number_of-injective (PL one) (PL other) (1268 + p) first (second ∙ ap (λ k. Some (1268 + k)) (sym places)) in
        cc

-- in the list of the groups, what they have stands at their units
from_at : {X : Type 0} (f : Counter → X) (d : X) (k : ℕ) (groups : List Counter) (counter : Counter) → AreFrom k groups
    → Contains groups counter → (k ≤ counter_number counter) × (slice_index_or (map f groups) (counter_number counter - k) d ≡ f counter)
from_at f d k [] counter from (i, within, is) = absurd (omega (arith, within))
from_at f d k (group ∷ groups) counter (is, from) there =
    by (listed-cases counter group groups there) (λ later. from_at f d (suc k) groups counter from later)
  where
    by : (group ≡ counter) ⊎ Contains groups counter
        → (Contains groups counter → (suc k ≤ counter_number counter)
        × (slice_index_or (map f groups) (counter_number counter - suc k) d ≡ f counter))
        → (k ≤ counter_number counter) × (slice_index_or (f group ∷ map f groups) (counter_number counter - k) d ≡ f counter)
    by (inl same) later =
        let number : counter_number counter ≡ k = ap counter_number (sym same) ∙ is in
        let place : counter_number counter - k ≡ 0 = omega (arith, number) in
        (omega (arith, number), ap (λ i. slice_index_or (f group ∷ map f groups) i d) place ∙ ap f same)
    by (inr there) later =
        let (less, rest) = later there in
        let place : counter_number counter - k ≡ suc (counter_number counter - suc k) = omega (arith, less) in
        (omega (arith, less), ap (λ i. slice_index_or (f group ∷ map f groups) i d) place ∙ rest)

pub at_unit : {X : Type 0} (f : Counter → X) (d : X) (groups : List Counter) (counter : Counter) → AreInUnitOrder groups
    → Contains groups counter → slice_index_or (map f groups) (counter_number counter - 3) d ≡ f counter
at_unit f d groups counter ordered there = (from_at f d 3 groups counter (are_from 3 groups group_units ordered group_units-up) there).1

-- each unit of the list is a group's
from_there : (k : ℕ) (groups : List Counter) (unit : ℕ) → AreFrom k groups → k ≤ unit → unit < k + length groups
    → (counter : Counter) × Contains groups counter × (counter_number counter ≡ unit)
from_there k [] unit from low high = absurd (omega (arith, low, high))
from_there k (group ∷ groups) unit (is, from) low high =
    by (nat_le unit k) refl (λ above. from_there (suc k) groups unit from above (omega (arith, high)))
  where
    by : (b : Bool) → nat_le unit k ≡ b
        → (suc k ≤ unit → (counter : Counter) × Contains groups counter × (counter_number counter ≡ unit))
        → (counter : Counter) × Contains (group ∷ groups) counter × (counter_number counter ≡ unit)
    by true at later =
        let same : counter_number group ≡ unit = grind (arith, nat_tests, at, low, is) in
        (group, listed-first group groups, same)
    by false above later =
        let less : suc k ≤ unit = grind (arith, nat_tests, above) in
        let (counter, there, number) = later less in
        (counter, listed-after group groups there, number)

-- as many groups as units
many_groups : (groups : List Counter) (units : List ℕ) → map counter_number groups ≡ units → length groups ≡ length units
many_groups [] [] same = refl
many_groups [] (unit ∷ units) same = cc
many_groups (group ∷ groups) [] same = cc
many_groups (group ∷ groups) (unit ∷ units) same =
    let rest : map counter_number groups ≡ units = cc in
    ap suc (many_groups groups units rest)

-- a group of a plan is a counter of the machine
pub counter_there : (groups : List Counter) (group : Group) → AreInUnitOrder groups → 3 ≤ unit_of group
    → (counter : Counter) × Contains groups counter × (counter.name ≡ group)
counter_there groups group ordered there =
    let many : length groups ≡ 32 = many_groups groups group_units ordered in
    let (counter, listed, number) =
    from_there 3 groups (unit_of group) (are_from 3 groups group_units ordered group_units-up) there
    (omega (arith, unit_of-last group, many)) in
    (counter, listed, one_unit counter.name group number there)

pub planned_unit : (lines : List Line) (plan : Lists) (number : ℕ) (group : Group) → ServesChart lines plan
    → ServesTotal lines plan number group → 3 ≤ unit_of group
planned_unit lines plan number group planned serves = unit_there group (serves-there lines plan planned number group serves)
