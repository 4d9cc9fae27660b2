-- The counter groups that serve a total, by their places in a ledger's account.
use Rattle.std.proofs.Common.{◌≡◌, ◌∙◌, refl, sym, ap, subst, ℕ, zero, suc, ◌+◌, ◌-◌, ◌<◌, ◌==◌, Bool, true, false, Some, length, map, get_or, arith, if◌then◌else◌}
use Rattle.std.proofs.lemmas.Bool.Decides.{nat_tests}
use Rattle.std.proofs.lemmas.List.{get_or-map}
use Rattle.counters.proofs.ControlHubs.{unit_of-group_of_unit}
use Rattle.counters.specs.Counters.{Counter, counter_at_start, counter_number, counter_of, group_of_unit}
use Rattle.hubs.specs.Carries.{is_one_group}
use Rattle.hubs.specs.declared.hub.Group.{Group}
use Rattle.explain_ledgers.specs.LedgersWords.Accounts.{counter_at}
use Rattle.machine.specs.Machine.{MachineState, group_units}
use Rattle.net.specs.Panel.{unit_of}
use Rattle.hubs.proofs.SetupsWords.CarryWires.{one-same}
use Rattle.explain_wheel_ledgers.specs.Places.{place_below, place_of}
use Rattle.proof_cycles.proofs.WholeCycles.Places.{as_many}
use Rattle.proof_cycles.specs.WholeCycles.Between.{IsBetween}
use Rattle.proof_cycles.specs.WholeCycles.Units.{group_at}

-- numbers that are told to be the same
pub same-numbers : (n m : ℕ) → (n == m) ≡ true → n ≡ m
same-numbers n m is = grind (arith, nat_tests, is)

-- the group at a place that is found
pub found-place : (count place : ℕ) (group : Group) → place_below count group ≡ Some place
    → (place < count) × (group_of_unit (3 + place) ≡ group)
found-place zero place group is = cc
found-place (suc count) place group is =
    by (λ found. found-place count place group found) (is_one_group (group_of_unit (3 + count)) group) refl is
  where
    by : (place_below count group ≡ Some place → (place < count) × (group_of_unit (3 + place) ≡ group)) → (b : Bool) → is_one_group (group_of_unit (3 + count)) group ≡ b
        → (if b then Some count else place_below count group) ≡ Some place → (place < suc count) × (group_of_unit (3 + place) ≡ group)
    by each true here is =
        let at : count ≡ place = cc in
        (omega (arith, at), subst (λ (n : ℕ). group_of_unit (3 + n) ≡ group) at (one-same (group_of_unit (3 + count)) group here))
    by each false other is =
        let more = each is in
        (let low = more.0 in omega (arith, low), more.1)

-- a group with a place is the unit of that place
pub place-unit : (place : ℕ) (group : Group) → place_of group ≡ Some place → (place < 32) × (unit_of group ≡ 3 + place)
place-unit place group is =
    let found = found-place 32 place group is in
    let low = found.0 in
    (low, ap unit_of (sym found.1) ∙ unit_of-group_of_unit (3 + place) (omega arith) (omega (arith, low)))

-- and what becomes of it in a machine becomes of the group at that place
pub at-place : (machine : MachineState) (change : Counter → Counter) (place : ℕ) (group : Group) → IsBetween machine
    → place_of group ≡ Some place → counter_at (map change machine.groups) place ≡ change (group_at machine group)
at-place machine change place group between is =
    let at = place-unit place group is in
    let low = at.0 in
    let unit = at.1 in
    let many : length machine.groups ≡ 32 = as_many counter_number machine.groups group_units between.ordered in
    let same : place ≡ unit_of group - 3 = omega (arith, unit) in
    get_or-map change machine.groups place (counter_of group) (counter_at_start 3) (omega (arith, many, low))
    ∙ ap (λ (n : ℕ). change (get_or machine.groups n (counter_of group))) same
