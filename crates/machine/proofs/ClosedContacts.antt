-- The closed contacts of all units are those that the selectors' crate tells by the balance latches of the groups.
use Rattle.std.proofs.Common.{◌≡◌, ℕ, zero, suc, ◌-◌, ◌<◌, ◌≤◌, ◌==◌, Bool, true, false, not, ◌&&◌, ◌||◌, nat_le, List, [], ◌∷◌, Option, Some, None, map, length, get_or, refl, sym, ap, ◌∙◌, arith, if◌then◌else◌}
use Rattle.std.proofs.lemmas.Bool.Decides.{nat_tests}
use Rattle.std.specs.List.{list_any}
use Rattle.std.proofs.Math.Bool.{or-false, or-true}
use Rattle.card_code.specs.declared.row.Row.{Row as CardRow}
use Rattle.card_code.specs.declared.row.Row.TheVariants as rows
use Rattle.counters.specs.Counters.{Counter, counter_number, counter_closes, counter_sensed, wheels_in}
use Rattle.counters.specs.Wheels.{all_nines}
use Rattle.hubs.specs.HubTable.Places.{width_place, up_to, part_place}
use Rattle.hubs.specs.HubTable.Ranges.{is_within}
use Rattle.hubs.proofs.HubTable.PlaceLemmas.{width_place-range}
use Rattle.hubs.specs.declared.hub.Group.{Group}
use Rattle.hubs.specs.declared.hub.Hub.{Hub}
use Rattle.hubs.specs.declared.hub.Hub.TheVariants.{BAN, BAT, CO, PIN, PIT, CSD, CSZ}
use Rattle.net.specs.Cycles.{is_closing}
use Rattle.net.specs.Panel.{unit_of, unit_after}
use Rattle.net.specs.declared.cycle.Cycle.{Cycle}
use Rattle.net.specs.HubSets.{GainsHubs, has_hub}
use Rattle.net.specs.declared.cycle.Point.{Point}
use Rattle.net.specs.declared.cycle.Point.TheVariants.{C, Row, K}
use Rattle.selectors.specs.Contacts.{balance_closes, carry_closes, closed_contacts, is_nines, steady_closes}
use Rattle.selectors.specs.Indicate.{indicate_closes}
use Rattle.selectors.specs.Pilots.{PilotStates, pilots_closes, pilots_sensed}
use Rattle.selectors.specs.Splits.{is_digit_row, split_closes}
use Rattle.storage_units.specs.Storage.{storage_sensed}
use Rattle.machine.specs.Fields.{AreInUnitOrder}
use Rattle.machine.specs.Machine.{MachineState, closes, sensed, group_units}
use Rattle.machine.specs.Steady.{balance_latches, nines_of, closed_at, AreSteady}
use Rattle.machine.specs.declared.closed.Closed.{Closed}

-- the numbers count up from k
abbrev CountUp : ℕ → List ℕ → Type 0
CountUp k [] = Unit {0}
CountUp k (n ∷ ns) = (n ≡ k) × CountUp (suc k) ns

-- the groups are the units from k on
abbrev pub AreFrom : ℕ → List Counter → Type 0
AreFrom k [] = Unit {0}
AreFrom k (group ∷ groups) = (counter_number group ≡ k) × AreFrom (suc k) groups

same_head : (m n : ℕ) (ms ns : List ℕ) → m ∷ ms ≡ n ∷ ns → m ≡ n
same_head m n ms ns same = cc

same_tail : (m n : ℕ) (ms ns : List ℕ) → m ∷ ms ≡ n ∷ ns → ms ≡ ns
same_tail m n ms ns same = cc

pub are_from : (k : ℕ) (groups : List Counter) (ns : List ℕ) → map counter_number groups ≡ ns → CountUp k ns → AreFrom k groups
are_from k [] ns same up = tt
are_from k (group ∷ groups) [] same up = cc
are_from k (group ∷ groups) (n ∷ ns) same up = (
  same_head (counter_number group) n (map counter_number groups) ns same ∙ up.0,
  are_from (suc k) groups ns (same_tail (counter_number group) n (map counter_number groups) ns same) up.1,
)

pub group_units-up : CountUp 3 group_units
group_units-up = (refl, (refl, (refl, (refl, (refl, (refl, (refl, (refl, (refl, (refl, (refl, (refl, (refl, (refl, (refl, (refl, (refl, (refl, (refl, (refl, (refl, (refl, (refl, (refl, (refl, (refl, (refl, (refl, (refl, (refl, (refl, (refl, tt))))))))))))))))))))))))))))))))

length-from : (groups : List Counter) (ns : List ℕ) → map counter_number groups ≡ ns → length groups ≡ length ns
length-from [] [] same = refl
length-from [] (n ∷ ns) same = cc
length-from (group ∷ groups) [] same = cc
length-from (group ∷ groups) (n ∷ ns) same =
    ap suc (length-from groups ns (same_tail (counter_number group) n (map counter_number groups) ns same))

-- a test of the latch at a place; false past the end
abbrev tells_at : (Bool → Bool) → List Bool → ℕ → Bool
tells_at test [] place = false
tells_at test (latch ∷ latches) zero = test latch
tells_at test (latch ∷ latches) (suc place) = tells_at test latches place

latch-here : (u k : ℕ) (within : Bool) (test : Bool → Bool) (latch : Bool) (latches : List Bool)
    → (((u == k) && within && test latch) || (nat_le (suc k) u && within && tells_at test latches (u - suc k)))
    ≡ (nat_le k u && within && tells_at test (latch ∷ latches) (u - k))
latch-here u k within test latch latches = by (u == k) (nat_le (suc k) u) refl refl
  where
    by : (same above : Bool) → (u == k) ≡ same → nat_le (suc k) u ≡ above
        → ((same && within && test latch) || (above && within && tells_at test latches (u - suc k)))
        ≡ (nat_le k u && within && tells_at test (latch ∷ latches) (u - k))
    by true true is over = absurd (grind (arith, nat_tests))
    by true false is over =
        let none : u - k ≡ 0 = grind (arith, nat_tests) in
        let reached : nat_le k u ≡ true = grind (arith, nat_tests) in
        rw (none, reached) (or-false (within && test latch))
    by false true is over =
        let one : u - k ≡ suc (u - suc k) = grind (arith, nat_tests) in
        let reached : nat_le k u ≡ true = grind (arith, nat_tests) in
        rw (one, reached) refl
    by false false is over =
        let reached : nat_le k u ≡ false = grind (arith, nat_tests) in
        rw reached refl

-- of groups that are the units from k on, that of unit u alone answers for it
any-at : (told : Counter → Bool) (u k : ℕ) (within : Bool) (test : Bool → Bool) (groups : List Counter) → AreFrom k groups
    → list_any (λ group. (u == counter_number group) && within && test (told group)) groups
    ≡ (nat_le k u && within && tells_at test (map told groups) (u - k))
any-at told u k within test [] from = grind (arith, nat_tests)
any-at told u k within test (group ∷ groups) (is, from) =
    rw (is, any-at told u (suc k) within test groups from) (latch-here u k within test (told group) (map told groups))

tells_at-in : (test : Bool → Bool) (latches : List Bool) (place : ℕ) → place < length latches
    → tells_at test latches place ≡ test (get_or latches place false)
tells_at-in test [] place inside = absurd (omega (arith, inside))
tells_at-in test (latch ∷ latches) zero inside = refl
tells_at-in test (latch ∷ latches) (suc place) inside = tells_at-in test latches place (omega (arith, inside))

up_to-last : (last n p : ℕ) → up_to last n ≡ Some p → (1 ≤ p) × (p ≤ last)
up_to-last last n p is = (grind (arith, nat_tests), grind (arith, nat_tests))

unit_of-place : (width number : Option ℕ) → ((p : ℕ) → width ≡ Some p → (1 ≤ p) × (p ≤ 4))
    → ((p : ℕ) → number ≡ Some p → (1 ≤ p) × (p ≤ 8)) → unit_after 2 (part_place 8 width number) < 35
unit_of-place None number first second = omega arith
unit_of-place (Some w) None first second = omega arith
unit_of-place (Some w) (Some n) first second =
    let one = first w refl in
    let other = second n refl in
    omega (arith, one.0, one.1, other.0, other.1)

pub unit_of-last : (group : Group) → unit_of group < 35
unit_of-last group =
    unit_of-place (width_place group.width) (up_to 8 group.number) (width_place-range group.width) (up_to-last 8 group.number)

length-told : (told : Counter → Bool) (groups : List Counter) → length (map told groups) ≡ length groups
length-told told [] = refl
length-told told (group ∷ groups) = ap suc (length-told told groups)

-- what the group of a unit tells
told-of : (told : Counter → Bool) (groups : List Counter) (group : Group) (within : Bool) (test : Bool → Bool) → AreInUnitOrder groups
    → list_any (λ g. (unit_of group == counter_number g) && within && test (told g)) groups
    ≡ (nat_le 3 (unit_of group) && within && test (get_or (map told groups) (unit_of group - 3) false))
told-of told groups group within test ordered =
    let from = are_from 3 groups group_units ordered group_units-up in
    let long : length (map told groups) ≡ 32 = length-told told groups ∙ length-from groups group_units ordered in
    let last = unit_of-last group in
    any-at told (unit_of group) 3 within test groups from
    ∙ ap (λ (b : Bool). nat_le 3 (unit_of group) && within && b)
    (tells_at-in test (map told groups) (unit_of group - 3) (omega (arith, long, last)))

pub none-of : {X : Type 0} → (xs : List X) → list_any (λ x. false) xs ≡ false
none-of [] = refl
none-of (x ∷ xs) = none-of xs

-- tests that are the same of each thing
any-same : {X : Type 0} → (one other : X → Bool) (xs : List X) → ((x : X) → one x ≡ other x) → list_any one xs ≡ list_any other xs
any-same one other [] same = refl
any-same one other (x ∷ xs) same = ap (λ b. b || list_any one xs) (same x) ∙ ap (λ b. other x || b) (any-same one other xs same)

with_true : (a b : Bool) → (a && b) ≡ (a && true && b)
with_true true b = refl
with_true false b = refl

-- what the group of a unit tells, as it is
told : (tells : Counter → Bool) (groups : List Counter) (group : Group) → AreInUnitOrder groups
    → list_any (λ g. (unit_of group == counter_number g) && tells g) groups
    ≡ (nat_le 3 (unit_of group) && get_or (map tells groups) (unit_of group - 3) false)
told tells groups group ordered =
    any-same (λ g. (unit_of group == counter_number g) && tells g) (λ g. (unit_of group == counter_number g) && true && tells g) groups
    (λ g. with_true (unit_of group == counter_number g) (tells g))
    ∙ told-of tells groups group true (λ b. b) ordered
    ∙ sym (with_true (nat_le 3 (unit_of group)) (get_or (map tells groups) (unit_of group - 3) false))

-- a test before that of each thing
any-and : {X : Type 0} → (first : Bool) (test : X → Bool) (xs : List X) → list_any (λ x. first && test x) xs ≡ (first && list_any test xs)
any-and true test xs = refl
any-and false test xs = none-of xs

-- the contacts of the groups: those of their balance positions, and those of their carries
groups-close : (groups : List Counter) (cycle : Cycle) (point : Point) (hub : Hub) → AreInUnitOrder groups
    → list_any (λ group. counter_closes group cycle point hub) groups
    ≡ (carry_closes point (nines_of groups) hub || balance_closes (balance_latches groups) hub)
groups-close groups cycle point (BAN group position) ordered =
    told-of (λ g. g.latch) groups group (is_within position 4) not ordered
groups-close groups cycle point (BAT group position) ordered =
    told-of (λ g. g.latch) groups group (is_within position 4) (λ latch. latch) ordered
groups-close groups cycle point (CO group) ordered =
    any-and (is_closing point) (λ g. (unit_of group == counter_number g) && all_nines (wheels_in g)) groups
    ∙ ap (λ b. is_closing point && b) (told (λ g. all_nines (wheels_in g)) groups group ordered)
    ∙ sym (or-false _)
groups-close groups cycle point other ordered = none-of groups

joined : (carry balance pilots indicate splits : Bool)
    → ((carry || balance) || false || pilots || indicate || splits || false || false || false || false)
    ≡ (carry || (balance || (pilots || (indicate || splits))))
joined true balance pilots indicate splits = refl
joined false true pilots indicate splits = refl
joined false false true indicate splits = refl
joined false false false true splits = refl
joined false false false false true = refl
joined false false false false false = refl

-- all closed contacts
pub closes-joined : (machine : MachineState) (cycle : Cycle) (point : Point) (hub : Hub) → AreInUnitOrder machine.groups
    → closes machine cycle point hub
    ≡ closed_contacts cycle point machine.pilots machine.indicate (balance_latches machine.groups) (nines_of machine.groups) hub
closes-joined machine cycle point hub ordered =
    rw (groups-close machine.groups cycle point hub ordered, none-of machine.storage)
    (joined (carry_closes point (nines_of machine.groups) hub) (balance_closes (balance_latches machine.groups) hub)
    (pilots_closes machine.pilots cycle point hub) (indicate_closes machine.indicate cycle point hub) (split_closes point hub))

split_last : (a b c d : Bool) → ((a || (b || c)) || d) ≡ (a || (b || (c || d)))
split_last true b c d = refl
split_last false true c d = refl
split_last false false c d = refl

-- the splits are closed alike at all digit rows, and at all zone rows
digits-same : (row : CardRow) (hub : Hub) → is_digit_row row ≡ true → split_closes (Row rows.Nine) hub ≡ split_closes (Row row) hub
digits-same row (CSD split) is = rw is refl
digits-same row (CSZ split) is = rw is refl
digits-same row other is = refl

zones-same : (row : CardRow) (hub : Hub) → is_digit_row row ≡ false → split_closes (Row rows.Twelve) hub ≡ split_closes (Row row) hub
zones-same row (CSD split) is = rw is refl
zones-same row (CSZ split) is = rw is refl
zones-same row other is = refl

or-none : (a : Bool) → a ≡ (a || false)
or-none true = refl
or-none false = refl

-- the contacts that are closed once for a cycle
pub steady-closed : (cycle : Cycle) (closed : Closed) (machine : MachineState) (latches : List Bool)
    → AreInUnitOrder machine.groups → latches ≡ balance_latches machine.groups
    → ((point : Point) (hub : Hub) → has_hub closed.steady hub ≡ steady_closes cycle point machine.pilots machine.indicate latches hub)
    → GainsHubs (split_closes (Row rows.Nine)) closed.steady closed.digits
    → GainsHubs (split_closes (Row rows.Twelve)) closed.steady closed.zones
    → AreSteady cycle closed machine
steady-closed cycle closed machine latches ordered same is digits zones point hub =
    by point
    ∙ ap (λ (b : Bool). b || split_closes point hub)
    (is point hub ∙ ap (λ (ls : List Bool). steady_closes cycle point machine.pilots machine.indicate ls hub) same)
  where
    at_row : (row : CardRow) (digit : Bool) → is_digit_row row ≡ digit
        → has_hub (if digit then closed.digits else closed.zones) hub ≡ (has_hub closed.steady hub || split_closes (Row row) hub)
    at_row row true is_digit =
        digits hub ∙ ap (λ (b : Bool). has_hub closed.steady hub || b) (digits-same row hub is_digit)
    at_row row false is_digit =
        zones hub ∙ ap (λ (b : Bool). has_hub closed.steady hub || b) (zones-same row hub is_digit)

    by : (p : Point) → has_hub (closed_at closed p) hub ≡ (has_hub closed.steady hub || split_closes p hub)
    by C = or-none (has_hub closed.steady hub)
    by (Row row) = at_row row (is_digit_row row) refl
    by K = or-none (has_hub closed.steady hub)

-- With those of the carries they are all closed contacts, and before the closing point they are all.
steady-first : (o a b c d : Bool) → (((a || (b || c)) || d) || o) ≡ (o || (a || (b || (c || d))))
steady-first true a b c d = or-true ((a || (b || c)) || d)
steady-first false a b c d = or-false ((a || (b || c)) || d) ∙ split_last a b c d

pub closes-all : (cycle : Cycle) (closed : Closed) (machine : MachineState) (point : Point) (hub : Hub)
    → AreInUnitOrder machine.groups → AreSteady cycle closed machine
    → (has_hub (closed_at closed point) hub || carry_closes point (nines_of machine.groups) hub) ≡ closes machine cycle point hub
closes-all cycle closed machine point hub ordered steady =
    ap (λ (b : Bool). b || carry_closes point (nines_of machine.groups) hub) (steady point hub)
    ∙ steady-first (carry_closes point (nines_of machine.groups) hub) (balance_closes (balance_latches machine.groups) hub)
    (pilots_closes machine.pilots cycle point hub) (indicate_closes machine.indicate cycle point hub) (split_closes point hub)
    ∙ sym (closes-joined machine cycle point hub ordered)

no-carry : (point : Point) (nines : List Bool) (hub : Hub) → is_closing point ≡ false → carry_closes point nines hub ≡ false
no-carry point nines (CO group) before = ap (λ b. b && (nat_le 3 (unit_of group) && is_nines nines group)) before
no-carry point nines other before = refl

pub closes-others : (cycle : Cycle) (closed : Closed) (machine : MachineState) (point : Point) (hub : Hub)
    → AreInUnitOrder machine.groups → AreSteady cycle closed machine → is_closing point ≡ false
    → has_hub (closed_at closed point) hub ≡ closes machine cycle point hub
closes-others cycle closed machine point hub ordered steady before =
    or-none _
    ∙ ap (λ (b : Bool). has_hub (closed_at closed point) hub || b) (sym (no-carry point (nines_of machine.groups) hub before))
    ∙ closes-all cycle closed machine point hub ordered steady

-- What a unit senses before the closing point changes none of its contacts there.
counter-steady : (group : Counter) (cycle : Cycle) (at point : Point) (picture : Hub → Bool) (hub : Hub) → is_closing point ≡ false
    → counter_closes (counter_sensed group cycle at picture) cycle point hub ≡ counter_closes group cycle point hub
counter-steady group cycle at point picture (CO name) before =
    carry-shut (counter_sensed group cycle at picture) ∙ sym (carry-shut group)
  where
    carry-shut : (g : Counter) → counter_closes g cycle point (CO name) ≡ false
    carry-shut g = ap (λ b. b && ((unit_of name == counter_number g) && all_nines (wheels_in g))) before
counter-steady group cycle C point picture (BAN name position) before = refl
counter-steady group cycle (Row row) point picture (BAN name position) before = refl
counter-steady group cycle K point picture (BAN name position) before = refl
counter-steady group cycle C point picture (BAT name position) before = refl
counter-steady group cycle (Row row) point picture (BAT name position) before = refl
counter-steady group cycle K point picture (BAT name position) before = refl
counter-steady group cycle at point picture hub before = refl

-- what keeps each latch keeps them all
pub latches-same : (change : Counter → Counter) → ((group : Counter) → (change group).latch ≡ group.latch)
    → (groups : List Counter) → balance_latches (map change groups) ≡ balance_latches groups
latches-same change keeps [] = refl
latches-same change keeps (group ∷ groups) =
    ap (λ b. b ∷ balance_latches (map change groups)) (keeps group)
    ∙ ap (λ bs. group.latch ∷ bs) (latches-same change keeps groups)

latch-steady : (group : Counter) (cycle : Cycle) (at : Point) (picture : Hub → Bool)
    → (counter_sensed group cycle at picture).latch ≡ group.latch
latch-steady group cycle C picture = refl
latch-steady group cycle (Row row) picture = refl
latch-steady group cycle K picture = refl

pub latches-steady : (groups : List Counter) (cycle : Cycle) (at : Point) (picture : Hub → Bool)
    → balance_latches (map (λ group. counter_sensed group cycle at picture) groups) ≡ balance_latches groups
latches-steady groups cycle at picture =
    latches-same (λ group. counter_sensed group cycle at picture) (λ group. latch-steady group cycle at picture) groups

pilots-steady : (pilots : PilotStates) (cycle : Cycle) (at point : Point) (picture : Hub → Bool) (hub : Hub)
    → pilots_closes (pilots_sensed pilots cycle at picture) cycle point hub ≡ pilots_closes pilots cycle point hub
pilots-steady pilots cycle at point picture (PIN pilot position) = refl
pilots-steady pilots cycle at point picture (PIT pilot position) = refl
pilots-steady pilots cycle at point picture other = refl

groups-steady : (groups : List Counter) (cycle : Cycle) (at point : Point) (picture : Hub → Bool) (hub : Hub) → is_closing point ≡ false
    → list_any (λ group. counter_closes group cycle point hub) (map (λ group. counter_sensed group cycle at picture) groups)
    ≡ list_any (λ group. counter_closes group cycle point hub) groups
groups-steady [] cycle at point picture hub before = refl
groups-steady (group ∷ groups) cycle at point picture hub before =
    rw (counter-steady group cycle at point picture hub before, groups-steady groups cycle at point picture hub before) refl

-- the contacts of all units stay as they are through the points before the closing point
pub closes-steady : (machine : MachineState) (cycle : Cycle) (at point : Point) (picture : Hub → Bool) (hub : Hub)
    → is_closing point ≡ false
    → closes (sensed machine cycle at picture) cycle point hub ≡ closes machine cycle point hub
closes-steady machine cycle at point picture hub before =
    rw (
      groups-steady machine.groups cycle at point picture hub before,
      none-of (map (λ storage. storage_sensed storage cycle at picture) machine.storage),
      none-of machine.storage,
      pilots-steady machine.pilots cycle at point picture hub,
    )
    refl

pub AreSteady-sensed : (cycle : Cycle) (closed : Closed) (machine : MachineState) (at : Point) (picture : Hub → Bool)
    → AreSteady cycle closed machine → AreSteady cycle closed (sensed machine cycle at picture)
AreSteady-sensed cycle closed machine at picture steady point hub =
    steady point hub
    ∙ ap (λ (ls : List Bool). (balance_closes ls hub
    || (pilots_closes machine.pilots cycle point hub || indicate_closes machine.indicate cycle point hub)) || split_closes point hub)
    (sym (latches-steady machine.groups cycle at picture))
    ∙ ap (λ (b : Bool). (balance_closes (balance_latches (sensed machine cycle at picture).groups) hub
    || (b || indicate_closes machine.indicate cycle point hub)) || split_closes point hub)
    (sym (pilots-steady machine.pilots cycle at point picture hub))
