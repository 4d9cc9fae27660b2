-- The units that sense a hub of a set that gains one hub after another in the order of their numbers.
use Rattle.std.proofs.Common.{◌≡◌, ◌≢◌, ◌∙◌, ap, sym, refl, ℕ, ◌+◌, ◌-◌, ◌&&◌, ◌||◌, Bool, true, false, Option, Some, None, arith, inl, inr, ◌↔◌, ◌⊎◌, subst}
use Rattle.std.specs.Prelude.{◌==◌, is_some, nat_lt}
use Rattle.std.proofs.lemmas.Bool.{cases_eq, false≢true, or_cases, or_left, or_right, and_parts}
use Rattle.std.proofs.lemmas.Bool.Decides.{nat_tests}
use Rattle.hubs.proofs.HubLemmas.{number_of-injective}
use Rattle.hubs.specs.declared.hub.Hub.{Hub}
use Rattle.hubs.specs.Hubs.{is_hub_in_range, number_of}
use Rattle.net.specs.HubSets.{HubSet, has_hub, has_number}
use Rattle.net.specs.Panel.{reader_of}
use Rattle.machine_served.specs.ServedWords.Orders.{unit_count}
use Rattle.machine_served.specs.ServedWords.Units.{IsUnit}
use Rattle.machine_served.proofs.WaitsWords.Below.{is_below, is_number_below, none_below}
use Rattle.machine_served.specs.WaitsWords.Waits.{SensesOther}

-- the hubs of a set with numbers below another
abbrev pub part_below : ℕ → (Hub → Bool) → Hub → Bool
part_below end set hub = is_below end hub && set hub

pub both_true : (a b : Bool) → a ≡ true → b ≡ true → (a && b) ≡ true
both_true true b one other = other
both_true false b one other = absurd (false≢true one)

-- a stored set has hubs of the panel alone
pub has_hub-in_range : (set : HubSet) (hub : Hub) → has_hub set hub ≡ true → is_hub_in_range hub ≡ true
has_hub-in_range set hub on = by (number_of hub) on where
  by : (found : Option ℕ) → has_number set found ≡ true → is_some found ≡ true
  by None at = absurd (false≢true at)
  by (Some n) at = refl

-- at first no unit senses one
pub none_first : (set : Hub → Bool) (unit but : ℕ) → SensesOther unit but (part_below 1 set) → ⊥
none_first set unit but senses =
    absurd (false≢true (sym (none_below senses.entry) ∙ (and_parts (is_below 1 senses.entry) (set senses.entry) senses.in_set).0))

module _ (set : Hub → Bool) (but n : ℕ) (next : Hub) (numbered : number_of next ≡ Some n) where
  grows : (hub : Hub) → part_below n set hub ≡ true → part_below (n + 1) set hub ≡ true
  grows hub on = by (number_of hub) refl where
    parts : (is_below n hub ≡ true) × (set hub ≡ true)
    parts = and_parts (is_below n hub) (set hub) on

    wider : (found : Option ℕ) → is_number_below n found ≡ true → is_number_below (n + 1) found ≡ true
    wider None at = at
    wider (Some m) at = grind (arith, nat_tests, at)

    by : (found : Option ℕ) → number_of hub ≡ found → part_below (n + 1) set hub ≡ true
    by found is = both_true _ _ (wider (number_of hub) parts.0) parts.1

  comes : set next ≡ true → part_below (n + 1) set next ≡ true
  comes on = both_true _ _ (ap (is_number_below (n + 1)) numbered ∙ next_one) on where
    next_one : nat_lt n (n + 1) ≡ true
    next_one = grind (arith, nat_tests)

  was_or_is : (hub : Hub) → part_below (n + 1) set hub ≡ true → (part_below n set hub ≡ true) ⊎ (hub ≡ next)
  was_or_is hub on = by (number_of hub) refl where
    parts : (is_below (n + 1) hub ≡ true) × (set hub ≡ true)
    parts = and_parts (is_below (n + 1) hub) (set hub) on

    by : (found : Option ℕ) → number_of hub ≡ found → (part_below n set hub ≡ true) ⊎ (hub ≡ next)
    by None is = absurd (false≢true (sym (ap (is_number_below (n + 1)) is) ∙ parts.0))
    by (Some m) is =
        let low : nat_lt m (n + 1) ≡ true = sym (ap (is_number_below (n + 1)) is) ∙ parts.0 in
        elim (cases_eq m n) [
          | inl same ↦ inr (number_of-injective hub next n (is ∙ ap Some same) numbered)
          | inr apart ↦
              let below : nat_lt m n ≡ true = grind (arith, nat_tests, low, apart) in
              inl (both_true _ _ (ap (is_number_below n) is ∙ below) parts.1)
        ]

  still : (unit : ℕ) → SensesOther unit but (part_below n set) → SensesOther unit but (part_below (n + 1) set)
  still unit senses = record {
    is_unit = senses.is_unit;
    another = senses.another;
    entry = senses.entry;
    sensed = senses.sensed;
    in_set = grows senses.entry senses.in_set;
  }

  -- the next hub is in the set, and another unit senses it
  pub reader_comes : (old : ℕ → Bool) (unit : ℕ) → IsUnit unit_count unit → but ≢ unit → reader_of next ≡ unit → set next ≡ true
      → ((place : ℕ) → (old place ≡ true) ↔ SensesOther (place + 1) but (part_below n set))
      → (place : ℕ) → ((old place || (place == unit - 1)) ≡ true) ↔ SensesOther (place + 1) but (part_below (n + 1) set)
  reader_comes old unit is_unit another reads on so_far place = (there, back) where
    there : (old place || (place == unit - 1)) ≡ true → SensesOther (place + 1) but (part_below (n + 1) set)
    there at = elim (or_cases (old place) (place == unit - 1) at) [
      | inl was ↦ still (place + 1) ((so_far place).0 was)
      | inr same ↦
          let is : unit ≡ place + 1 = grind (arith, nat_tests, same, is_unit.0) in
          subst (λ u. SensesOther u but (part_below (n + 1) set)) is
          (record { is_unit = is_unit; another = another; entry = next; sensed = reads; in_set = comes on })
    ]

    back : SensesOther (place + 1) but (part_below (n + 1) set) → (old place || (place == unit - 1)) ≡ true
    back senses = elim (was_or_is senses.entry senses.in_set) [
      | inl was ↦
          or_left (old place) (place == unit - 1)
          ((so_far place).1
          (record {
            is_unit = senses.is_unit;
            another = senses.another;
            entry = senses.entry;
            sensed = senses.sensed;
            in_set = was;
          }))
      | inr is ↦
          let same : place + 1 ≡ unit = sym senses.sensed ∙ ap reader_of is ∙ reads in
          or_right (old place) (place == unit - 1) (grind (arith, nat_tests, same))
    ]

  -- the next hub is not in the set, or no other unit senses it
  pub none_comes : (old : ℕ → Bool)
      → (IsUnit unit_count (reader_of next) → but ≢ reader_of next → set next ≡ true → ⊥)
      → ((place : ℕ) → (old place ≡ true) ↔ SensesOther (place + 1) but (part_below n set))
      → (place : ℕ) → (old place ≡ true) ↔ SensesOther (place + 1) but (part_below (n + 1) set)
  none_comes old never so_far place = (λ at. still (place + 1) ((so_far place).0 at), back) where
    back : SensesOther (place + 1) but (part_below (n + 1) set) → old place ≡ true
    back senses = elim (was_or_is senses.entry senses.in_set) [
      | inl was ↦
          (so_far place).1
          (record {
            is_unit = senses.is_unit;
            another = senses.another;
            entry = senses.entry;
            sensed = senses.sensed;
            in_set = was;
          })
      | inr is ↦
          let reads : reader_of next ≡ place + 1 = ap reader_of (sym is) ∙ senses.sensed in
          absurd (never (subst (IsUnit unit_count) (sym reads) senses.is_unit) (λ same. senses.another (same ∙ reads))
          (ap set (sym is) ∙ (and_parts (is_below (n + 1) senses.entry) (set senses.entry) senses.in_set).1))
    ]

-- where all hubs of the set are passed, the units are those that sense one of the set
pub all_read : (set : Hub → Bool) (unit but end : ℕ) → end ≡ 1937 → ((hub : Hub) → set hub ≡ true → is_below end hub ≡ true)
    → SensesOther unit but (part_below end set) ↔ SensesOther unit but set
all_read set unit but end last within = (
  λ senses. record {
    is_unit = senses.is_unit;
    another = senses.another;
    entry = senses.entry;
    sensed = senses.sensed;
    in_set = (and_parts (is_below end senses.entry) (set senses.entry) senses.in_set).1;
  },
  λ senses. record {
    is_unit = senses.is_unit;
    another = senses.another;
    entry = senses.entry;
    sensed = senses.sensed;
    in_set = both_true _ _ (within senses.entry senses.in_set) senses.in_set;
  },
)
