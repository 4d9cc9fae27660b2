-- The contacts of the balance positions of a group are those of its unit.
use Rattle.std.proofs.Common.{◌≡◌, ◌∙◌, ap, sym, refl, ℕ, ◌+◌, ◌-◌, ◌*◌, ◌≤◌, ◌&&◌, ◌||◌, not, Bool, true, false, Option, Some, None, option_map, arith, if◌then◌else◌}
use Rattle.std.specs.Prelude.{◌==◌, nat_lt}
use Rattle.std.proofs.lemmas.Bool.{false≢true}
use Rattle.std.proofs.lemmas.Bool.Decides.{nat_tests}
use Rattle.counters.proofs.ControlHubs.{group_place-unit}
use Rattle.counters.specs.Counters.{Counter, counter_closes, counter_number, group_of_unit, wheels_in}
use Rattle.counters.specs.Wheels.{all_nines}
use Rattle.hubs.specs.HubTable.Places.{group_place, part_place, up_to, width_place}
use Rattle.hubs.specs.HubTable.Ranges.{is_within}
use Rattle.hubs.specs.declared.hub.Group.{Group}
use Rattle.hubs.specs.declared.hub.Hub.{Hub}
use Rattle.hubs.specs.declared.hub.Hub.TheVariants.{BAN, BAT, CO}
use Rattle.net.proofs.Rows.{is_hub-same}
use Rattle.net.specs.Cycles.{is_closing}
use Rattle.net.specs.HubSets.{is_hub, is_same_number}
use Rattle.net.specs.Panel.{unit_after, unit_of}
use Rattle.net.specs.declared.cycle.Cycle.{Cycle}
use Rattle.net.specs.declared.cycle.Point.{Point}
use Rattle.machine_served.specs.ServedRuns.Contacts.{balances_to}

-- the unit of the group that is a unit
pub unit_of-named : (unit : ℕ) → 3 ≤ unit → unit ≤ 34 → unit_of (group_of_unit unit) ≡ unit
unit_of-named unit from to =
    let e : 2 + (unit - 2) ≡ unit = omega arith in
    ap (unit_after 2) (group_place-unit unit from to) ∙ e

up_to-within : (last n : ℕ) → is_within n last ≡ true → up_to last n ≡ Some n
up_to-within last n within = ap (λ (b : Bool). if b then Some n else None) within

up_to-beyond : (last n : ℕ) → is_within n last ≡ false → up_to last n ≡ None
up_to-beyond last n beyond = ap (λ (b : Bool). if b then Some n else None) beyond

-- a group has a place from 1 on, or none
place-some : (width number : Option ℕ) (place : ℕ) → part_place 8 width number ≡ Some place
    → ((p : ℕ) → number ≡ Some p → 1 ≤ p) → 1 ≤ place
place-some None number place is from = cc
place-some (Some w) None place is from = cc
place-some (Some w) (Some n) place is from =
    let first = from n refl in
    let e : (w - 1) * 8 + n ≡ place = cc in
    omega (arith, first, e)

up_to-first : (last n p : ℕ) → up_to last n ≡ Some p → 1 ≤ p
up_to-first last n p is = grind (arith, nat_tests)

group_place-first : (group : Group) (place : ℕ) → group_place group.width group.number ≡ Some place → 1 ≤ place
group_place-first group place is =
    place-some (width_place group.width) (up_to 8 group.number) place is (up_to-first 8 group.number)

same_places : (b n q k p unit : ℕ) → 2 + n ≡ unit → 1 ≤ n → 1 ≤ q → 1 ≤ k → k ≤ 4 → is_within p 4 ≡ true
    → (b + ((n - 1) * 4 + k) == b + ((q - 1) * 4 + p)) ≡ ((2 + q == unit) && (true && (p == k)))
same_places b n q k p unit is from other first last within = grind (arith, nat_tests)

-- the hubs of one position of two groups
same_position : (b : ℕ) (one other : Option ℕ) (k p unit : ℕ) → unit_after 2 one ≡ unit → 3 ≤ unit → 1 ≤ k → k ≤ 4
    → ((q : ℕ) → one ≡ Some q → 1 ≤ q) → ((q : ℕ) → other ≡ Some q → 1 ≤ q)
    → is_same_number (option_map (λ place. b + place) (part_place 4 one (up_to 4 k)))
    (option_map (λ place. b + place) (part_place 4 other (up_to 4 p)))
    ≡ ((unit_after 2 other == unit) && (is_within p 4 && (p == k)))
same_position b None other k p unit is from first last some others = absurd (omega (arith, is, from))
same_position b (Some n) None k p unit is from first last some others =
    let within : is_within k 4 ≡ true = grind (arith, nat_tests) in
    let none : (0 == unit) ≡ false = grind (arith, nat_tests) in
    rw (up_to-within 4 k within, none) refl
same_position b (Some n) (Some q) k p unit is from first last some others =
    let within : is_within k 4 ≡ true = grind (arith, nat_tests) in
    rw (up_to-within 4 k within) (by (is_within p 4) refl)
  where
    by : (inside : Bool) → is_within p 4 ≡ inside
        → is_same_number (Some (b + ((n - 1) * 4 + k))) (option_map (λ place. b + place) (part_place 4 (Some q) (up_to 4 p)))
        ≡ ((2 + q == unit) && (is_within p 4 && (p == k)))
    by true inside =
        rw (up_to-within 4 p inside, inside)
        (same_places b n q k p unit is (some n refl) (others q refl) first last inside)
    by false beyond = rw (up_to-beyond 4 p beyond, beyond) (never (2 + q == unit)) where
      never : (b : Bool) → false ≡ (b && false)
      never true = refl
      never false = refl

is_ban : Hub → Bool
is_ban (BAN group position) = true
is_ban hub = false

is_bat : Hub → Bool
is_bat (BAT group position) = true
is_bat hub = false

is_co : Hub → Bool
is_co (CO group) = true
is_co hub = false

-- a hub of another kind is not the same
other_kind : (kind : Hub → Bool) (one hub : Hub) → kind one ≡ true → kind hub ≡ false → is_hub one hub ≡ false
other_kind kind one hub here apart = by (is_hub one hub) refl where
  by : (same : Bool) → is_hub one hub ≡ same → is_hub one hub ≡ false
  by false is = is
  by true is = absurd (false≢true (sym apart ∙ ap kind (sym (is_hub-same one hub is)) ∙ here))

neither : (a b : Bool) (one other : Bool) → one ≡ false → other ≡ false → false ≡ ((false || (a && one)) || (b && other))
neither a b one other first second = grind (arith, nat_tests)

more_ban : (k position : ℕ) (own inside latch : Bool)
    → ((((own && (inside && nat_lt position k)) && not latch) || (not latch && (own && (inside && (position == k))))) || (latch && false))
    ≡ ((own && (inside && nat_lt position (k + 1))) && not latch)
more_ban k position true true false = grind (arith, nat_tests)
more_ban k position true true true = grind (arith, nat_tests)
more_ban k position true false true = refl
more_ban k position true false false = refl
more_ban k position false inside true = refl
more_ban k position false inside false = refl

more_bat : (k position : ℕ) (own inside latch : Bool)
    → ((((own && (inside && nat_lt position k)) && latch) || (not latch && false)) || (latch && (own && (inside && (position == k)))))
    ≡ ((own && (inside && nat_lt position (k + 1))) && latch)
more_bat k position true true false = grind (arith, nat_tests)
more_bat k position true true true = grind (arith, nat_tests)
more_bat k position true false true = refl
more_bat k position true false false = refl
more_bat k position false inside true = refl
more_bat k position false inside false = refl

none_more : (latch : Bool) → ((false || (not latch && false)) || (latch && false)) ≡ false
none_more true = refl
none_more false = refl

all_four : (position : ℕ) (own : Bool) → (own && (is_within position 4 && nat_lt position 5)) ≡ (own && is_within position 4)
all_four position own = ap (λ b. own && b) (inside (is_within position 4) refl) where
  inside : (b : Bool) → is_within position 4 ≡ b → (b && nat_lt position 5) ≡ b
  inside true is = grind (arith, nat_tests)
  inside false is = refl

no_carry : (a b nines : Bool) → a ≡ b → (a || (nines && false)) ≡ b
no_carry a b nines same = grind (arith, nat_tests)

turned : (nines own : Bool) → (false || (nines && own)) ≡ (true && (own && nines))
turned true true = refl
turned true false = refl
turned false true = refl
turned false false = refl

same_group : (b : ℕ) (one other : Option ℕ) (unit : ℕ) → unit_after 2 one ≡ unit → 3 ≤ unit
    → is_same_number (option_map (λ place. b + place) one) (option_map (λ place. b + place) other) ≡ (unit_after 2 other == unit)
same_group b None other unit is from = absurd (omega (arith, is, from))
same_group b (Some n) None unit is from = grind (arith, nat_tests)
same_group b (Some n) (Some q) unit is from = grind (arith, nat_tests)

-- at first none
pub balances-none : (unit : ℕ) (latch : Bool) (hub : Hub) → balances_to 1 unit latch hub ≡ false
balances-none unit latch (BAN group position) = none_before position (unit_of group == unit) (not latch)
  where
    none_before : (position : ℕ) (own closed : Bool) → ((own && (is_within position 4 && nat_lt position 1)) && closed) ≡ false
    none_before position own closed = grind (arith, nat_tests)
balances-none unit latch (BAT group position) = none_before position (unit_of group == unit) latch
  where
    none_before : (position : ℕ) (own closed : Bool) → ((own && (is_within position 4 && nat_lt position 1)) && closed) ≡ false
    none_before position own closed = grind (arith, nat_tests)
balances-none unit latch hub = refl

module _ (unit : ℕ) (from : 3 ≤ unit) (to : unit ≤ 34) (name : Group) (is : unit_of name ≡ unit) where
  same_ban : (k : ℕ) (group : Group) (position : ℕ) → 1 ≤ k → k ≤ 4
      → is_hub (BAN name k) (BAN group position) ≡ ((unit_of group == unit) && (is_within position 4 && (position == k)))
  same_ban k group position first last =
      same_position 390 (group_place name.width name.number) (group_place group.width group.number) k position unit is from first last
      (group_place-first name) (group_place-first group)

  same_bat : (k : ℕ) (group : Group) (position : ℕ) → 1 ≤ k → k ≤ 4
      → is_hub (BAT name k) (BAT group position) ≡ ((unit_of group == unit) && (is_within position 4 && (position == k)))
  same_bat k group position first last =
      same_position 518 (group_place name.width name.number) (group_place group.width group.number) k position unit is from first last
      (group_place-first name) (group_place-first group)

  -- one more position
  pub balances-more : (k : ℕ) (latch : Bool) (hub : Hub) → 1 ≤ k → k ≤ 4
      → ((balances_to k unit latch hub || (not latch && is_hub (BAN name k) hub)) || (latch && is_hub (BAT name k) hub))
      ≡ balances_to (k + 1) unit latch hub
  unfolding is_ban is_bat
  balances-more k latch (BAN group position) first last =
      rw (same_ban k group position first last, other_kind is_bat (BAT name k) (BAN group position) refl refl)
      (more_ban k position (unit_of group == unit) (is_within position 4) latch)
  balances-more k latch (BAT group position) first last =
      rw (same_bat k group position first last, other_kind is_ban (BAN name k) (BAT group position) refl refl)
      (more_bat k position (unit_of group == unit) (is_within position 4) latch)
  balances-more k latch hub first last =
      rw (other_kind is_ban (BAN name k) hub refl refl, other_kind is_bat (BAT name k) hub refl refl) (none_more latch)

  -- the carry exit of the group
  same_co : (group : Group) → is_hub (CO name) (CO group) ≡ (unit_of group == unit)
  same_co group = same_group 358 (group_place name.width name.number) (group_place group.width group.number) unit is from

  -- all contacts of a group but that of its carries
  pub closes-balances : (counter : Counter) (cycle : Cycle) (point : Point) (hub : Hub) → counter_number counter ≡ unit
      → is_closing point ≡ false → balances_to 5 unit counter.latch hub ≡ counter_closes counter cycle point hub
  closes-balances counter cycle point (BAN group position) numbered before =
      rw numbered (ap (λ b. b && not counter.latch) (all_four position (unit_of group == unit)))
  closes-balances counter cycle point (BAT group position) numbered before =
      rw numbered (ap (λ b. b && counter.latch) (all_four position (unit_of group == unit)))
  closes-balances counter cycle point (CO group) numbered before = rw before refl
  closes-balances counter cycle point hub numbered before = refl

  -- and with it, at the closing point
  pub closes-all : (counter : Counter) (cycle : Cycle) (point : Point) (hub : Hub) → counter_number counter ≡ unit
      → is_closing point ≡ true
      → (balances_to 5 unit counter.latch hub || (all_nines (wheels_in counter) && is_hub (CO name) hub))
      ≡ counter_closes counter cycle point hub
  unfolding is_co
  closes-all counter cycle point (BAN group position) numbered closing =
      rw (numbered, other_kind is_co (CO name) (BAN group position) refl refl)
      (no_carry _ _ (all_nines (wheels_in counter))
      (ap (λ b. b && not counter.latch) (all_four position (unit_of group == unit))))
  closes-all counter cycle point (BAT group position) numbered closing =
      rw (numbered, other_kind is_co (CO name) (BAT group position) refl refl)
      (no_carry _ _ (all_nines (wheels_in counter))
      (ap (λ b. b && counter.latch) (all_four position (unit_of group == unit))))
  closes-all counter cycle point (CO group) numbered closing =
      rw (closing, numbered, same_co group) (turned (all_nines (wheels_in counter)) (unit_of group == unit))
  closes-all counter cycle point hub numbered closing =
      rw (other_kind is_co (CO name) hub refl refl) (no_carry false false (all_nines (wheels_in counter)) refl)
