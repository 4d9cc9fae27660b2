-- Hubs and their numbers: each number 1 to 1936 is that of one hub.
use Rattle.std.proofs.Common.{◌≡◌, ◌↔◌, ◌≤◌, ◌+◌, ◌-◌, ◌∙◌, sym, ap, refl, arith, ℕ, Bool, true, false, not, ◌&&◌, Option, Some, None}
use Rattle.std.specs.Prelude.{option_map, is_some, nat_le, IfSome}
use Rattle.std.proofs.lemmas.Bool.{and_parts, and_from, false≢true}
use Rattle.std.proofs.lemmas.Bool.Decides.{nat_tests}
use Rattle.hubs.proofs.HubTable.KindLemmas.{HasNumber-same, HasNumber-some, exits_end, entries_start, kinds_have_small_lasts}
use Rattle.hubs.proofs.HubTable.PlaceLemmas.{place-range, place-injective, numbers_at, numbers_at-place, small_numbers}
use Rattle.hubs.specs.HubTable.HubTable.{row_of, HasNumber}
use Rattle.hubs.specs.Hubs.{letters_of, numbers_of, hub_named, number_of, is_hub_in_range, is_exit_hub, is_entry_hub}
use Rattle.hubs.specs.HubTable.Places.{place_of, AreSmall}
use Rattle.hubs.specs.declared.hub.Hub.{Hub}
use Rattle.hubs.specs.declared.hub.Hub.TheVariants.{FR, SR, W}
use Rattle.hubs.specs.declared.hub_table.letters.Letters.{Letters}
use Rattle.hubs.specs.declared.hub_table.letters.Letters.TheVariants as kind
use Rattle.hubs.specs.declared.hub_table.shape.Numbers.{Numbers}
use Rattle.hubs.specs.declared.hub_table.shape.Numbers.TheVariants.{Bare, One, Two, Three}

-- a hub is the one with its letters and its numbers
pub hub_named-own : (hub : Hub) → hub_named (letters_of hub) (numbers_of hub) ≡ Some hub
hub_named-own (FR column) = refl
hub_named-own other = refl

-- the hub with some letters and numbers has these
pub record IsNamed (letters : Letters) (numbers : Numbers) (hub : Hub) : Type 0 where
  pub letters_are : letters_of hub ≡ letters
  pub numbers_are : numbers_of hub ≡ numbers

named_so : {letters : Letters} {numbers : Numbers} (hub one : Hub) → Some one ≡ Some hub → letters_of one ≡ letters
    → numbers_of one ≡ numbers → IsNamed letters numbers hub
named_so hub one e is_letters are_numbers =
    let same : hub ≡ one = cc in
    record { letters_are = rw same is_letters; numbers_are = rw same are_numbers }

pub hub_named-parts : (letters : Letters) (numbers : Numbers) (hub : Hub) → hub_named letters numbers ≡ Some hub
    → IsNamed letters numbers hub
hub_named-parts kind.FR (One column) hub e = named_so hub _ e refl refl
hub_named-parts kind.SR (One column) hub e = named_so hub _ e refl refl
hub_named-parts kind.CX (One position) hub e = named_so hub _ e refl refl
hub_named-parts kind.GX (Three width number position) hub e = named_so hub _ e refl refl
hub_named-parts kind.CO (Two width number) hub e = named_so hub _ e refl refl
hub_named-parts kind.BAN (Three width number position) hub e = named_so hub _ e refl refl
hub_named-parts kind.BAT (Three width number position) hub e = named_so hub _ e refl refl
hub_named-parts kind.PIN (Two pilot position) hub e = named_so hub _ e refl refl
hub_named-parts kind.PIT (Two pilot position) hub e = named_so hub _ e refl refl
hub_named-parts kind.SX (Two unit column) hub e = named_so hub _ e refl refl
hub_named-parts kind.IX (Two level position) hub e = named_so hub _ e refl refl
hub_named-parts kind.CSD (One split) hub e = named_so hub _ e refl refl
hub_named-parts kind.CSZ (One split) hub e = named_so hub _ e refl refl
hub_named-parts kind.EM (Two emitter row) hub e = named_so hub _ e refl refl
hub_named-parts kind.CC Bare hub e = named_so hub _ e refl refl
hub_named-parts kind.PX (Two level cycle) hub e = named_so hub _ e refl refl
hub_named-parts kind.HX (One heading) hub e = named_so hub _ e refl refl
hub_named-parts kind.CA (One position) hub e = named_so hub _ e refl refl
hub_named-parts kind.CB (One position) hub e = named_so hub _ e refl refl
hub_named-parts kind.GE (Three width number position) hub e = named_so hub _ e refl refl
hub_named-parts kind.PL (Two width number) hub e = named_so hub _ e refl refl
hub_named-parts kind.MI (Two width number) hub e = named_so hub _ e refl refl
hub_named-parts kind.RO (Two width number) hub e = named_so hub _ e refl refl
hub_named-parts kind.BT (Two width number) hub e = named_so hub _ e refl refl
hub_named-parts kind.CI (Two width number) hub e = named_so hub _ e refl refl
hub_named-parts kind.BAC (Three width number position) hub e = named_so hub _ e refl refl
hub_named-parts kind.PIC (Two pilot position) hub e = named_so hub _ e refl refl
hub_named-parts kind.PIX (One pilot) hub e = named_so hub _ e refl refl
hub_named-parts kind.SE (Two unit column) hub e = named_so hub _ e refl refl
hub_named-parts kind.SI (One unit) hub e = named_so hub _ e refl refl
hub_named-parts kind.SO (One unit) hub e = named_so hub _ e refl refl
hub_named-parts kind.IE (Two level position) hub e = named_so hub _ e refl refl
hub_named-parts kind.CSE (One split) hub e = named_so hub _ e refl refl
hub_named-parts kind.W (One wheel) hub e = named_so hub _ e refl refl
hub_named-parts kind.ST (One level) hub e = named_so hub _ e refl refl
hub_named-parts kind.SP (One lines) hub e = named_so hub _ e refl refl
hub_named-parts kind.SK (One channel) hub e = named_so hub _ e refl refl
hub_named-parts kind.RS Bare hub e = named_so hub _ e refl refl
hub_named-parts letters numbers hub e = cc

-- there is a hub at each place of a kind
named_at : (letters : Letters) (p : ℕ)
    → (hub : Hub) × (hub_named letters (numbers_at (row_of letters).shape p) ≡ Some hub)
named_at kind.FR p = (_, refl)
named_at kind.SR p = (_, refl)
named_at kind.CX p = (_, refl)
named_at kind.GX p = (_, refl)
named_at kind.CO p = (_, refl)
named_at kind.BAN p = (_, refl)
named_at kind.BAT p = (_, refl)
named_at kind.PIN p = (_, refl)
named_at kind.PIT p = (_, refl)
named_at kind.SX p = (_, refl)
named_at kind.IX p = (_, refl)
named_at kind.CSD p = (_, refl)
named_at kind.CSZ p = (_, refl)
named_at kind.EM p = (_, refl)
named_at kind.CC p = (_, refl)
named_at kind.PX p = (_, refl)
named_at kind.HX p = (_, refl)
named_at kind.CA p = (_, refl)
named_at kind.CB p = (_, refl)
named_at kind.GE p = (_, refl)
named_at kind.PL p = (_, refl)
named_at kind.MI p = (_, refl)
named_at kind.RO p = (_, refl)
named_at kind.BT p = (_, refl)
named_at kind.CI p = (_, refl)
named_at kind.BAC p = (_, refl)
named_at kind.PIC p = (_, refl)
named_at kind.PIX p = (_, refl)
named_at kind.SE p = (_, refl)
named_at kind.SI p = (_, refl)
named_at kind.SO p = (_, refl)
named_at kind.IE p = (_, refl)
named_at kind.CSE p = (_, refl)
named_at kind.W p = (_, refl)
named_at kind.ST p = (_, refl)
named_at kind.SP p = (_, refl)
named_at kind.SK p = (_, refl)
named_at kind.RS p = (_, refl)

-- the number of a hub, by its place among those of its kind
record Place (hub : Hub) (n : ℕ) : Type 0 where
  place : ℕ
  is_place : place_of (row_of (letters_of hub)).shape (numbers_of hub) ≡ Some place
  number : (row_of (letters_of hub)).before + place ≡ n

after : (before : ℕ) (found : Option ℕ) (n : ℕ) → option_map (λ (place : ℕ). before + place) found ≡ Some n
    → (place : ℕ) × (found ≡ Some place) × (before + place ≡ n)
after before (Some place) n e = (place, refl, cc)
after before None n e = cc

place_of_number : (hub : Hub) (n : ℕ) → number_of hub ≡ Some n → Place hub n
place_of_number hub n e =
    let found = after (row_of (letters_of hub)).before (place_of (row_of (letters_of hub)).shape (numbers_of hub)) n e in
    record { place = found.0; is_place = found.1; number = found.2 }

-- a hub's number is one of its kind
pub number_of-kind : (hub : Hub) (n : ℕ) → number_of hub ≡ Some n → HasNumber (letters_of hub) n
number_of-kind hub n e =
    let place = place_of_number hub n e in
    let range = place-range (row_of (letters_of hub)).shape (numbers_of hub) place.place place.is_place in
    (omega (arith, range, place.number), omega (arith, range, place.number))

-- two hubs with one number are one hub
pub number_of-injective : (one other : Hub) (n : ℕ) → number_of one ≡ Some n → number_of other ≡ Some n → one ≡ other
number_of-injective one other n e f =
    let kind : letters_of one ≡ letters_of other =
    HasNumber-same (letters_of one) (letters_of other) n (number_of-kind one n e) (number_of-kind other n f) in
    let place = place_of_number one n e in
    let and_place = place_of_number other n f in
    let level : (row_of (letters_of one)).before + and_place.place ≡ n = rw kind and_place.number in
    let same : and_place.place ≡ place.place = omega (arith, level, place.number) in
    let and_is : place_of (row_of (letters_of one)).shape (numbers_of other) ≡ Some place.place =
    rw kind (and_place.is_place ∙ ap Some same) in
    let numbers : numbers_of one ≡ numbers_of other =
    place-injective (row_of (letters_of one)).shape (numbers_of one) (numbers_of other) place.place place.is_place
    and_is in
    let own = hub_named-own one in
    let and_own = hub_named-own other in
    cc

-- the hub at a place of a kind has the number that is as many after
number_at : (letters : Letters) (numbers : Numbers) (hub : Hub) (p : ℕ) → hub_named letters numbers ≡ Some hub
    → place_of (row_of letters).shape numbers ≡ Some p → number_of hub ≡ Some ((row_of letters).before + p)
number_at letters numbers hub p named is =
    let parts = hub_named-parts letters numbers hub named in
    rw (parts.letters_are, parts.numbers_are, is) refl

-- each number 1 to 1936 is that of a hub
pub hub_numbered : (n : ℕ) → 1 ≤ n → n ≤ 1936 → (hub : Hub) × (number_of hub ≡ Some n)
hub_numbered n from to =
    let found = HasNumber-some n from to in
    let letters = found.0 in
    let place = n - (row_of letters).before in
    let hub = named_at letters place in
    let is =
    numbers_at-place (row_of letters).shape place (omega (arith, found.1.0)) (omega (arith, found.1.0, found.1.1)) in
    let level : (row_of letters).before + place ≡ n = omega (arith, found.1.0) in (
      hub.0,
      number_at letters (numbers_at (row_of letters).shape place) hub.0 place hub.1 is ∙ ap Some level,
    )

-- a hub is in range where it has a number
pub in_range : (hub : Hub) (n : ℕ) → number_of hub ≡ Some n → is_hub_in_range hub ≡ true
in_range hub n e = rw e refl

pub number_of-range : (hub : Hub) (n : ℕ) → number_of hub ≡ Some n → (1 ≤ n) × (n ≤ 1936)
number_of-range hub n e =
    by_side (row_of (letters_of hub)).is_exit refl where
      has : HasNumber (letters_of hub) n
      has = number_of-kind hub n e

      by_side : (is_exit : Bool) → (row_of (letters_of hub)).is_exit ≡ is_exit → (1 ≤ n) × (n ≤ 1936)
      by_side true is = let end = exits_end (letters_of hub) is in (omega (arith, has.0), omega (arith, has.1, end))
      by_side false is =
          let ends = entries_start (letters_of hub) is in (omega (arith, has.0), omega (arith, has.1, ends.1))

le_of : (m : ℕ) → nat_le m 1040 ≡ true → m ≤ 1040
le_of m low = grind (arith, nat_tests)

of_le : (m : ℕ) → m ≤ 1040 → nat_le m 1040 ≡ true
of_le m low = grind (arith, nat_tests)

lt_of : (m : ℕ) → not (nat_le m 1040) ≡ true → 1041 ≤ m
lt_of m high = grind (arith, nat_tests)

not_low : (m : ℕ) → 1041 ≤ m → false ≡ nat_le m 1040
not_low m high = grind (arith, nat_tests)

of_lt : (m : ℕ) → 1041 ≤ m → not (nat_le m 1040) ≡ true
of_lt m high = grind (arith, nat_tests)

-- whether hubs are exits, by their numbers
exit_by_number : (hub : Hub) (n : ℕ) → number_of hub ≡ Some n → (row_of (letters_of hub)).is_exit ≡ nat_le n 1040
exit_by_number hub n e =
    by_side (row_of (letters_of hub)).is_exit refl where
      has : HasNumber (letters_of hub) n
      has = number_of-kind hub n e

      by_side : (is_exit : Bool) → (row_of (letters_of hub)).is_exit ≡ is_exit → is_exit ≡ nat_le n 1040
      by_side true is = let end = exits_end (letters_of hub) is in sym (of_le n (omega (arith, has.1, end)))
      by_side false is = let ends = entries_start (letters_of hub) is in not_low n (omega (arith, has.0, ends.0))

-- the exits have the numbers to 1040
pub is_exit-number : (hub : Hub) (n : ℕ) → number_of hub ≡ Some n → is_exit_hub hub ≡ true ↔ (n ≤ 1040)
is_exit-number hub n e =
    by_tests (row_of (letters_of hub)).is_exit (is_hub_in_range hub) n (exit_by_number hub n e) (in_range hub n e) where
      by_tests : (is_exit is_there : Bool) (m : ℕ) → is_exit ≡ nat_le m 1040 → is_there ≡ true
          → (is_exit && is_there) ≡ true ↔ (m ≤ 1040)
      by_tests is_exit is_there m side there = (
        λ both. le_of m (sym side ∙ (and_parts is_exit is_there both).0),
        λ low. and_from is_exit is_there (side ∙ of_le m low) there,
      )

-- the entries have the numbers after
pub is_entry-number : (hub : Hub) (n : ℕ) → number_of hub ≡ Some n → is_entry_hub hub ≡ true ↔ (1041 ≤ n)
is_entry-number hub n e =
    by_tests (row_of (letters_of hub)).is_exit (is_hub_in_range hub) n (exit_by_number hub n e) (in_range hub n e) where
      by_tests : (is_exit is_there : Bool) (m : ℕ) → is_exit ≡ nat_le m 1040 → is_there ≡ true
          → (not is_exit && is_there) ≡ true ↔ (1041 ≤ m)
      by_tests is_exit is_there m side there = (
        λ both. lt_of m (ap not (sym side) ∙ (and_parts (not is_exit) is_there both).0),
        λ high. and_from (not is_exit) is_there (ap not side ∙ of_lt m high) there,
      )

-- a hub that is there has a number
numbered : (hub : Hub) → is_hub_in_range hub ≡ true → (n : ℕ) × (number_of hub ≡ Some n)
numbered hub there = of_some (number_of hub) there where
  of_some : (number : Option ℕ) → is_some number ≡ true → (n : ℕ) × (number ≡ Some n)
  of_some (Some n) there = (n, refl)
  of_some None there = cc

pub number_of-exit : (hub : Hub) → is_exit_hub hub ≡ true → (n : ℕ) × (number_of hub ≡ Some n) × (n ≤ 1040)
number_of-exit hub is =
    let number = numbered hub (and_parts (row_of (letters_of hub)).is_exit (is_hub_in_range hub) is).1 in
    (number.0, number.1, (is_exit-number hub number.0 number.1).0 is)

pub number_of-entry : (hub : Hub) → is_entry_hub hub ≡ true → (n : ℕ) × (number_of hub ≡ Some n) × (1041 ≤ n)
number_of-entry hub is =
    let number = numbered hub (and_parts (not (row_of (letters_of hub)).is_exit) (is_hub_in_range hub) is).1 in
    (number.0, number.1, (is_entry-number hub number.0 number.1).0 is)

-- the numbers of columns at second reading, and of print wheels
pub number_of-SR : (c : ℕ) → 1 ≤ c → c ≤ 80 → number_of (SR c) ≡ Some (80 + c)
number_of-SR c from to = grind (arith, nat_tests)

pub number_of-W : (v : ℕ) → 1 ≤ v → v ≤ 120 → number_of (W v) ≡ Some (1798 + v)
number_of-W v from to = grind (arith, nat_tests)

pub SR-number : (c g : ℕ) → number_of (SR c) ≡ Some g → (g ≡ 80 + c) × (1 ≤ c) × (c ≤ 80)
SR-number c g e = grind (arith, nat_tests)

pub W-number : (v g : ℕ) → number_of (W v) ≡ Some g → (g ≡ 1798 + v) × (1 ≤ v) × (v ≤ 120)
W-number v g e = grind (arith, nat_tests)

-- what is named by letters and numbers that have a place is in range
pub named_in_range : (letters : Letters) (numbers : Numbers) (p : ℕ) → place_of (row_of letters).shape numbers ≡ Some p
    → (hub : Hub) → hub_named letters numbers ≡ Some hub → is_hub_in_range hub ≡ true
named_in_range letters numbers p is hub named =
    in_range hub ((row_of letters).before + p) (number_at letters numbers hub p named is)

-- what is named by letters and numbers that have none is not
pub named_out_of_range : (letters : Letters) (numbers : Numbers) → place_of (row_of letters).shape numbers ≡ None
    → (hub : Hub) → hub_named letters numbers ≡ Some hub → is_hub_in_range hub ≡ true → ⊥
named_out_of_range letters numbers none hub named there =
    let parts = hub_named-parts letters numbers hub named in
    false≢true (rw (parts.letters_are, parts.numbers_are, none) at there)

-- what stands at the place of a number, of the number's kind, has the number
pub numbered_at : (letters : Letters) (n : ℕ) (numbers : Numbers) (hub : Hub) → HasNumber letters n
    → place_of (row_of letters).shape numbers ≡ Some (n - (row_of letters).before)
    → hub_named letters numbers ≡ Some hub → number_of hub ≡ Some n
numbered_at letters n numbers hub has is named =
    let level : (row_of letters).before + (n - (row_of letters).before) ≡ n = omega (arith, has.0) in
    number_at letters numbers hub (n - (row_of letters).before) named is ∙ ap Some level

-- a hub is named by the kind of its number and the numbers at its place there
pub named_by_number : (letters : Letters) (n : ℕ) (numbers : Numbers) (hub : Hub) → HasNumber letters n
    → place_of (row_of letters).shape numbers ≡ Some (n - (row_of letters).before)
    → number_of hub ≡ Some n → hub_named letters numbers ≡ Some hub
named_by_number letters n numbers hub has is e =
    let kind : letters_of hub ≡ letters =
    HasNumber-same (letters_of hub) letters n (number_of-kind hub n e) has in
    let place = place_of_number hub n e in
    let level : (row_of letters).before + place.place ≡ n = rw kind at place.number in
    let same : n - (row_of letters).before ≡ place.place = omega (arith, level) in
    let own : place_of (row_of letters).shape (numbers_of hub) ≡ Some place.place = rw kind at place.is_place in
    let are : numbers_of hub ≡ numbers =
    place-injective (row_of letters).shape (numbers_of hub) numbers place.place own (is ∙ ap Some same) in
    let named = hub_named-own hub in
    cc

-- the numbers of a hub that is there are at most 255
pub place-small : (letters : Letters) (numbers : Numbers) (p : ℕ) → place_of (row_of letters).shape numbers ≡ Some p
    → AreSmall numbers
place-small letters numbers p is = small_numbers (row_of letters).shape numbers p (kinds_have_small_lasts letters) is

-- what holds of whatever is found
pub if_found : {X : Type 0} (P : X → Type 0) (found : Option X) → ((x : X) → found ≡ Some x → P x) → IfSome found P
if_found P (Some x) each = each x refl
if_found P None each = tt

-- what holds of what is found, and so more holds of it
pub if_found_more : {X : Type 0} (P Q : X → Type 0) (found : Option X) → IfSome found P → ((x : X) → P x → Q x)
    → IfSome found Q
if_found_more P Q (Some x) here more = more x here
if_found_more P Q None here more = tt
