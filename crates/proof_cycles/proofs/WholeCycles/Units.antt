-- Counter groups and storage units by their names.
use Rattle.std.proofs.Common.{◌≡◌, ◌≢◌, ◌∙◌, sym, ap, refl, ℕ, ◌+◌, ◌-◌, ◌<◌, ◌≤◌, ◌==◌, ◌&&◌, ◌||◌, not, Bool, true, false, List, length, map, Option, Some, None, is_some, option_map, get_or, arith}
use Rattle.std.proofs.lemmas.Bool.{and_right}
use Rattle.std.proofs.lemmas.Bool.Decides.{nat_tests}
use Rattle.std.proofs.lemmas.List.{get_or-map}
use Rattle.std.proofs.lemmas.List.FromFn.{get_or-range_with_len}
use Rattle.card_code.specs.Rows.{row_number}
use Rattle.card_code.specs.declared.row.Row.{Row as CardRow}
use Rattle.counters.specs.Counters.{Counter, counter_at_start, counter_closes, counter_emits, counter_number, counter_of, group_of_unit, shows, wheels_in}
use Rattle.counters.specs.Wheels.{all_nines, carries_out}
use Rattle.counters.specs.WholeCycles as counters
use Rattle.hubs.specs.HubTable.Ranges.{is_within}
use Rattle.hubs.specs.Hubs.{is_hub_in_range, number_of}
use Rattle.hubs.specs.HubTable.Places.{group_place}
use Rattle.hubs.specs.SetupsWords.Wiring.{Wiring}
use Rattle.hubs.specs.declared.hub.Group.{Group}
use Rattle.hubs.specs.declared.hub.Hub.{Hub}
use Rattle.hubs.specs.declared.hub.Hub.TheVariants.{CX, GX, CO, CI, BAN, BAT, SX, RO, SO}
use Rattle.net.specs.HubSets.{is_hub, is_same_number}
use Rattle.net.specs.Panel.{unit_of}
use Rattle.net.specs.declared.cycle.Cycle.{Cycle}
use Rattle.net.specs.declared.cycle.Cycle.TheVariants.{Card}
use Rattle.net.specs.declared.cycle.Point.{Point}
use Rattle.net.specs.declared.cycle.Point.TheVariants.{C, K}
use Rattle.machine.specs.Below.storage_units.Storage.{StorageState, holds, storage_at_start, storage_number}
use Rattle.machine.specs.Below.storage_units.WholeCycles as columns
use Rattle.machine.specs.Machine.{MachineState, group_units, machine_at_start, storage_units}
use Rattle.proof_cycles.specs.WholeCycles.Between.{IsBetween, IsIdle}
use Rattle.proof_cycles.specs.WholeCycles.Laws.{UnitsAreByName}
use Rattle.proof_cycles.specs.WholeCycles.Units.{IsGroup, IsGroupByName, IsStorageByNumber, UnitsStart, group_at, storage_at}
use Rattle.proof_cycles.specs.WholeCycles.WholeCycles.{before_closing, carry_emits, closing_emits, group_reads_out, storage_reads_out}
use Rattle.proof_cycles.proofs.WholeCycles.Alone.{are_alone, at_balances, at_columns, at_positions, differing, group-silent}
use Rattle.proof_cycles.proofs.WholeCycles.Emitted.{any-changed}
use Rattle.proof_cycles.proofs.WholeCycles.Sources.{none-any}
use Rattle.proof_cycles.proofs.WholeCycles.Places.{any-one, as_many, has_place, in_units, same_group, told_at}
use Rattle.proof_cycles.proofs.WholeCycles.Staying.{starts}

-- What stands in the list of groups: at the place of the name's unit a group of that unit, and at the others groups of others.
record Stands (machine : MachineState) (name : Group) : Type 0 where
  place : unit_of name - 3 < length machine.groups
  named : (group_at machine name).name ≡ name
  idle : IsIdle (group_at machine name)
  others : (j : ℕ) → j < length machine.groups → j ≢ unit_of name - 3
      → counter_number (get_or machine.groups j (counter_of name)) ≢ unit_of name

stands : (machine : MachineState) (name : Group) → IsBetween machine → IsGroup name → Stands machine name
stands machine name between is =
    let units = in_units name is in
    let many : length machine.groups ≡ 32 = as_many counter_number machine.groups group_units between.ordered in
    let k : ℕ = unit_of name - 3 in
    let d : Counter = counter_of name in
    let low : k < 32 = omega (arith, units.0, units.1) in
    let inside : k < length machine.groups = omega (arith, many, low) in
    let idle : IsIdle (group_at machine name) = between.groups k d inside in
    let number : counter_number (group_at machine name) ≡ 3 + k =
    told_at counter_number machine.groups group_units k d between.ordered inside ∙ get_or-range_with_len 3 32 k 0 low in
    let same : counter_number (group_at machine name) ≡ unit_of name = omega (arith, number, units.0) in
    record {
      place = inside;
      named =
          same_group (group_at machine name).name name (record { width = idle.lawful.width; number = idle.lawful.named }) is same;
      idle = idle;
      others = λ j within other same_unit.
          let there : counter_number (get_or machine.groups j d) ≡ 3 + j =
          told_at counter_number machine.groups group_units j d between.ordered within
          ∙ get_or-range_with_len 3 32 j 0 (omega (arith, within, many)) in
          other (omega (arith, there, same_unit));
    }

-- a test of units holds of no other
own_test : (u k : ℕ) (a b : Bool) → k ≢ u → (((u == k) && a) && b) ≡ false
own_test u k a b differ = grind (arith, nat_tests, differ)

own_here : (u k : ℕ) (a b : Bool) → k ≡ u → (((u == k) && a) && b) ≡ (a && b)
own_here u k a b same = grind (arith, nat_tests, same)

other_unit : (u k : ℕ) (a : Bool) → k ≢ u → ((u == k) && a) ≡ false
other_unit u k a differ = grind (arith, nat_tests, differ)

same_unit : (u k : ℕ) (a : Bool) → k ≡ u → ((u == k) && a) ≡ a
same_unit u k a same = grind (arith, nat_tests, same)

-- the carry exit of a group of the panel is on the panel
carry_in_range : (name : Group) → IsGroup name → is_hub_in_range (CO name) ≡ true
carry_in_range name is = by (group_place name.width name.number) (has_place name is)
  where
    by : (place : Option ℕ) → is_some place ≡ true → is_some (option_map (λ p. 358 + p) place) ≡ true
    by (Some p) there = refl
    by None there = cc

-- a hub of the panel is itself
same_hub : (number : Option ℕ) → is_some number ≡ true → is_same_number number number ≡ true
same_hub (Some n) there = grind (arith, nat_tests)
same_hub None there = cc

with_true : (a b : Bool) → b ≡ true → (a && b) ≡ a
with_true true b is = is
with_true false b is = refl

-- at the closing point comparing emits at its own exits alone
no-closing : (pictures : Point → Hub → Bool) (cycle : Cycle) (hub : Hub) → ((p : ℕ) → CX p ≡ hub → ⊥) → closing_emits pictures cycle hub ≡ false
no-closing pictures Card (CX p) differ = absurd (differ p refl)
no-closing pictures other hub differ = refl

by_name : (machine : MachineState) (name : Group) → IsBetween machine → IsGroup name → IsGroupByName machine name
by_name machine name between is =
    let at = stands machine name between is in
    let k : ℕ = unit_of name - 3 in
    let d : Counter = counter_of name in
    let unit : counter_number (group_at machine name) ≡ unit_of name = ap unit_of at.named in
    record {
      named = at.named;
      idle = at.idle;
      reads_out = λ pictures cycle row position.
          at_positions machine pictures cycle row name position
          ∙ any-one (λ group. group_reads_out pictures row group (GX name position)) machine.groups k d at.place
          (λ j within other. group-silent pictures row (GX name position) (get_or machine.groups j d)
          (λ p same. at.others j within other (unit_same (get_or machine.groups j d).name name p position same)))
          ∙ ap (λ (n : Group). pictures C (RO n) && shows n (row_number row) (group_at machine name).digits (GX name position)) at.named;
      normal = λ cycle point position.
          at_balances machine cycle point (BAN name position) refl (λ level p e. cc) (λ split e. cc) (λ split e. cc)
          ∙ any-one (λ group. counter_closes group cycle point (BAN name position)) machine.groups k d at.place
          (λ j within other. own_test (unit_of name) (counter_number (get_or machine.groups j d)) (is_within position 4)
          (not (get_or machine.groups j d).latch) (at.others j within other))
          ∙ own_here (unit_of name) (counter_number (group_at machine name)) (is_within position 4)
          (not (group_at machine name).latch) unit;
      transferred = λ cycle point position.
          at_balances machine cycle point (BAT name position) refl (λ level p e. cc) (λ split e. cc) (λ split e. cc)
          ∙ any-one (λ group. counter_closes group cycle point (BAT name position)) machine.groups k d at.place
          (λ j within other. own_test (unit_of name) (counter_number (get_or machine.groups j d)) (is_within position 4)
          (get_or machine.groups j d).latch (at.others j within other))
          ∙ own_here (unit_of name) (counter_number (group_at machine name)) (is_within position 4)
          (group_at machine name).latch unit;
      carries = λ pictures cycle. record {
        there = carry_in_range name is;
        emits =
            ap (λ b. b || carry_emits machine pictures cycle (CO name)) (no-closing pictures cycle (CO name) (λ p e. cc))
            ∙ any-one (λ group. counter_emits (before_closing cycle pictures group) cycle K (CO name)) machine.groups k d at.place
            (λ j within other.
            and_right (carries_out (wheels_in (before_closing cycle pictures (get_or machine.groups j d))) false)
            (is_hub (CO (get_or machine.groups j d).name) (CO name))
            (differing (CO (get_or machine.groups j d).name) (CO name)
            (λ same. at.others j within other (carry_same (get_or machine.groups j d).name name same))))
            ∙ ap (λ (n : Group). carries_out (wheels_in (before_closing cycle pictures (group_at machine name))) false && is_hub (CO n) (CO name)) at.named
            ∙ with_true (carries_out (wheels_in (before_closing cycle pictures (group_at machine name))) false) (is_hub (CO name) (CO name))
            (same_hub (number_of (CO name)) (carry_in_range name is));
        closes =
            at_balances (record machine { groups = map (before_closing cycle pictures) machine.groups }) cycle K (CO name) refl
            (λ level p e. cc) (λ split e. cc) (λ split e. cc)
            ∙ any-changed (λ (group : Counter). counter_closes group cycle K (CO name))
            (λ (group : Counter). counter_closes (before_closing cycle pictures group) cycle K (CO name)) (before_closing cycle pictures)
            (λ group. refl) machine.groups
            ∙ any-one (λ group. counter_closes (before_closing cycle pictures group) cycle K (CO name)) machine.groups k d at.place
            (λ j within other. other_unit (unit_of name) (counter_number (get_or machine.groups j d))
            (all_nines (wheels_in (before_closing cycle pictures (get_or machine.groups j d)))) (at.others j within other))
            ∙ same_unit (unit_of name) (counter_number (group_at machine name))
            (all_nines (wheels_in (before_closing cycle pictures (group_at machine name)))) unit;
        enters =
            ap (λ b. b || carry_emits machine pictures cycle (CI name)) (no-closing pictures cycle (CI name) (λ p e. cc))
            ∙ none-any (λ (group : Counter). counter_emits (before_closing cycle pictures group) cycle K (CI name)) machine.groups
            (λ group. and_right (carries_out (wheels_in (before_closing cycle pictures group)) false) (is_hub (CO group.name) (CI name))
            (differing (CO group.name) (CI name) (λ e. cc)));
      };
      after = λ wiring cycle new whole.
          ap (λ (gs : List Counter). get_or gs k d) whole.groups
          ∙ get_or-map (counters.after_cycle cycle whole.pictures) machine.groups k d d at.place;
    }
  where
    carry_same : (one other : Group) → CO one ≡ CO other → unit_of one ≡ unit_of other
    carry_same one other same = let names : one ≡ other = cc in ap unit_of names

    unit_same : (one other : Group) (p q : ℕ) → GX one p ≡ GX other q → unit_of one ≡ unit_of other
    unit_same one other p q same = let names : one ≡ other = cc in ap unit_of names

-- a storage unit reads out at exits of its own number
storage-silent : (pictures : Point → Hub → Bool) (row : CardRow) (number column : ℕ) (storage : StorageState)
    → number ≢ storage.place → storage_reads_out pictures row storage (SX number column) ≡ false
storage-silent pictures row number column storage differ =
    by (pictures C (SO storage.place)) (holds storage row column)
  where
    by : (a b : Bool) → ((a && (number == storage.place)) && b) ≡ false
    by a b = grind (arith, nat_tests, differ)

storage-here : (pictures : Point → Hub → Bool) (row : CardRow) (number column : ℕ) (storage : StorageState)
    → storage.place ≡ number
    → storage_reads_out pictures row storage (SX number column) ≡ (pictures C (SO number) && holds storage row column)
storage-here pictures row number column storage same =
    by (pictures C (SO storage.place)) (holds storage row column)
    ∙ ap (λ (n : ℕ). pictures C (SO n) && holds storage row column) same
  where
    by : (a b : Bool) → ((a && (number == storage.place)) && b) ≡ (a && b)
    by a b = grind (arith, nat_tests, same)

by_number : (machine : MachineState) (number : ℕ) → IsBetween machine → 1 ≤ number → number ≤ 4 → IsStorageByNumber machine number
by_number machine number between low high =
    let many : length machine.storage ≡ 4 = as_many storage_number machine.storage storage_units between.numbered in
    let k : ℕ = number - 1 in
    let d : StorageState = storage_at_start (34 + number) in
    let inside : k < length machine.storage = omega (arith, many, low, high) in
    let unit_at : (j : ℕ) → j < length machine.storage → storage_number (get_or machine.storage j d) ≡ 35 + j =
    λ j within. told_at storage_number machine.storage storage_units j d between.numbered within
    ∙ get_or-range_with_len 35 4 j 0 (omega (arith, within, many)) in
    let place : (storage_at machine number).place ≡ number = (let is = unit_at k inside in omega (arith, is, low)) in
    record {
      placed = place;
      has_rows = between.storage k d inside;
      reads_out = λ pictures cycle row column.
          at_columns machine pictures cycle row number column
          ∙ any-one (λ storage. storage_reads_out pictures row storage (SX number column)) machine.storage k d inside
          (λ j within other. storage-silent pictures row number column (get_or machine.storage j d)
          (λ same. let is = unit_at j within in other (omega (arith, is, same, low))))
          ∙ storage-here pictures row number column (storage_at machine number) place;
      after = λ wiring cycle new whole.
          ap (λ (us : List StorageState). get_or us k d) whole.storage
          ∙ get_or-map (columns.after_cycle cycle whole.pictures) machine.storage k d d inside;
    }

-- the units at the start
units-start : (wiring : Wiring) → UnitsStart wiring
units-start wiring = record {
  groups = λ name is.
      let at = stands (machine_at_start wiring) name (starts wiring) is in
      let units = in_units name is in
      let made : group_at (machine_at_start wiring) name ≡ counter_at_start (get_or group_units (unit_of name - 3) 0) =
      get_or-map counter_at_start group_units (unit_of name - 3) 0 (counter_of name) (omega (arith, units.0, units.1)) in
      let called : group_of_unit (get_or group_units (unit_of name - 3) 0) ≡ name =
      ap (λ (g : Counter). g.name) (sym made) ∙ at.named in
      made ∙ ap counter_of called;
  storage = λ number low high.
      let unit : get_or storage_units (number - 1) 0 ≡ 34 + number =
      get_or-range_with_len 35 4 (number - 1) 0 (omega (arith, low, high)) ∙ plain number low in
      get_or-map storage_at_start storage_units (number - 1) 0 (storage_at_start (34 + number)) (omega (arith, low, high))
      ∙ ap storage_at_start unit;
}
  where
    plain : (number : ℕ) → 1 ≤ number → 35 + (number - 1) ≡ 34 + number
    plain number low = omega (arith, low)

pub units-by_name : UnitsAreByName
units-by_name = record { groups = by_name; storage = by_number; others = are_alone; start = units-start }
