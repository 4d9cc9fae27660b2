-- Counter groups and storage units of a machine between cycles, by the names of their hubs.
use Rattle.std.proofs.Common.{◌≡◌, ◌∙◌, sym, ap, ℕ, zero, suc, ◌+◌, ◌-◌, ◌/◌, ◌%◌, ◌^◌, ◌<◌, ◌≤◌, false, List, [], ◌∷◌, Contains, length, get_or, inl, inr, ◌⊎◌, arith}
use Rattle.std.proofs.lemmas.Bool.{cases_lt}
use Rattle.std.proofs.lemmas.Bool.Decides.{nat_tests}
use Rattle.std.proofs.lemmas.List.{get_or-map}
use Rattle.std.proofs.lemmas.List.FromFn.{get_or-range_with_len}
use Rattle.std.proofs.lemmas.List.Elements.{Contains-get_or}
use Rattle.proof_cycles.proofs.TotalsWords.CounterCycles.ShownLemmas.{digits-tell}
use Rattle.proof_cycles.specs.TotalsWords.CounterCycles.Acts.{digit_of}
use Rattle.proof_reports.specs.Below.chart_plans.PlansWords.Plans.{Lists, ServesChart}
use Rattle.proof_reports.specs.Below.chart_lines.declared.charts.chart.Line.{Line}
use Rattle.proof_cycles.specs.Below.counters.Counters.{Counter, counter_number, counter_of}
use Rattle.proof_cycles.specs.Below.counters.Laws.{IsCounter}
use Rattle.proof_cycles.specs.Below.counters.Numbers.{number}
use Rattle.proof_reports.specs.Below.hubs.declared.hub.Group.{Group}
use Rattle.proof_reports.specs.Below.machine.Machine.{MachineState, group_units, storage_units}
use Rattle.proof_cycles.specs.Below.net.Panel.{unit_of}
use Rattle.report_definition.specs.Edits.{last_digits}
use Rattle.proof_reports.specs.Below.storage_units.Storage.{StorageState, storage_number, storage_at_start}
use Rattle.proof_cycles.proofs.WholeCycles.Rings.{group-own as own}
use Rattle.proof_cycles.proofs.WholeCycles.Places.{in_units, as_many, told_at}
use Rattle.proof_cycles.proofs.WholeCycles.Units.{units-by_name}
use Rattle.proof_cycles.specs.WholeCycles.Between.{IsBetween}
use Rattle.proof_cycles.specs.WholeCycles.Units.{IsGroup, group_at, storage_at}
use Rattle.wiring_table.specs.Parts.{ServesTotal}
use Rattle.proof_reports.specs.WiredPanels.Sources.{digit_from_units}
use Rattle.proof_reports.proofs.WiredPanels.Contacts.{is_set}
use Rattle.wiring_table.proofs.Groups.{serves-there}

-- the units of the storage units, in order
storage-at : (k : ℕ) → k < 4 → get_or storage_units k 0 ≡ 35 + k
storage-at k within = get_or-range_with_len 35 4 k 0 within

-- a group of a total is one of the panel
pub group-named : (lines : List Line) (plan : Lists) (number : ℕ) (group : Group) → ServesChart lines plan
    → ServesTotal lines plan number group → IsGroup group
group-named lines plan number group planned serves =
    let has = serves-there lines plan planned number group serves in
    let from = has.from in
    let to = has.to in
    record { width = grind (arith, nat_tests, from, to); number = grind (arith, nat_tests, from, to) }

module _ (machine : MachineState) (between : IsBetween machine) where
  many : length machine.groups ≡ 32
  many = as_many counter_number machine.groups group_units between.ordered

  -- the group of a name is one of the machine
  pub group-listed : (name : Group) → IsGroup name → Contains machine.groups (group_at machine name)
  group-listed name is =
      let (low, high) = in_units name is in
      let m = many in
      Contains-get_or machine.groups (unit_of name - 3) (counter_of name) (omega (arith, low, high, m))

  -- a group of the machine is that of its name
  pub group-own : (counter : Counter) → Contains machine.groups counter → counter ≡ group_at machine counter.name
  group-own counter listed = own machine between counter listed

  pub counter-is : (name : Group) → IsGroup name → IsCounter (group_at machine name)
  counter-is name is = (units-by_name.groups machine name between is).idle.lawful

  -- the digit of a group at a position
  pub digit-of : (name : Group) (position : ℕ) → IsGroup name → 1 ≤ position → position ≤ length (group_at machine name).digits
      → digit_from_units (group_at machine name).digits position ≡ digit_of (number (group_at machine name).digits) position
  digit-of name position is from to = digits-tell.of_list (group_at machine name).digits position (counter-is name is).digits from to

  -- a latch by the name of its group
  pub latch-at : (name : Group) → IsGroup name → is_set machine name ≡ (group_at machine name).latch
  latch-at name is =
      let (low, high) = in_units name is in
      let m = many in
      get_or-map (λ c. c.latch) machine.groups (unit_of name - 3) (counter_of name) false (omega (arith, low, high, m))

  many_units : length machine.storage ≡ 4
  many_units = as_many storage_number machine.storage storage_units between.numbered

  pub unit-listed : (unit : ℕ) → 1 ≤ unit → unit ≤ 4 → Contains machine.storage (storage_at machine unit)
  unit-listed unit low high =
      let m = many_units in
      Contains-get_or machine.storage (unit - 1) (storage_at_start (34 + unit)) (omega (arith, low, high, m))

  pub unit-place : (unit : ℕ) → 1 ≤ unit → unit ≤ 4 → (storage_at machine unit).place ≡ unit
  unit-place unit low high =
      let m = many_units in
      let e = told_at storage_number machine.storage storage_units (unit - 1) (storage_at_start (34 + unit)) between.numbered (omega (arith, low, high, m)) in
      let f = storage-at (unit - 1) (omega (arith, low, high)) in
      omega (arith, e, f, low)

  pub unit-own : (storage : StorageState) → Contains machine.storage storage → storage ≡ storage_at machine storage.place
  unit-own storage (k, within, is) =
      let m = many_units in
      let unit : storage_number storage ≡ 35 + k
      = ap storage_number (sym is) ∙ told_at storage_number machine.storage storage_units k storage between.numbered within
      ∙ storage-at k (omega (arith, within, m)) in
      let place : storage.place - 1 ≡ k = omega (arith, unit) in
      sym (ap (λ j. get_or machine.storage j (storage_at_start (34 + storage.place))) place
      ∙ same machine.storage k storage (storage_at_start (34 + storage.place)) within is)
    where
      same : (list : List StorageState) (k : ℕ) (x d : StorageState) → k < length list → get_or list k x ≡ x → get_or list k d ≡ x
      same [] k x d within is = absurd (omega (arith, within))
      same (y ∷ list) zero x d within is = is
      same (y ∷ list) (suc k) x d within is = same list k x d (omega (arith, within)) is

-- the last digits of a number, by position
pub last-at : (count n position : ℕ) → 1 ≤ position → position ≤ count → get_or (last_digits count n) (count - position) 0 ≡ digit_of n position
last-at zero n position from to = absurd (omega (arith, from, to))
last-at (suc count) n position from to = by (cases_lt count position) (last-at count n position from)
  where
    by : (count < position) ⊎ (position ≤ count) → (position ≤ count → get_or (last_digits count n) (count - position) 0 ≡ digit_of n position)
        → get_or (last_digits (suc count) n) (suc count - position) 0 ≡ digit_of n position
    by (inl high) rest =
        let place : suc count - position ≡ 0 = omega (arith, high) in
        let is : count ≡ position - 1 = omega (arith, high, to) in
        ap (λ k. get_or (last_digits (suc count) n) k 0) place ∙ ap (λ k. n / 10 ^ k % 10) is
    by (inr low) rest =
        let place : suc count - position ≡ suc (count - position) = omega (arith, low) in
        ap (λ k. get_or (last_digits (suc count) n) k 0) place ∙ rest low
