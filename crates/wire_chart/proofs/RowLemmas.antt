-- Each row of the hub table as it is written: high letters, three at most, and numbers below 1,000.
use Rattle.std.proofs.Common.{◌≡◌, ℕ, ◌+◌, ◌-◌, ◌*◌, ◌<◌, ◌≤◌, List, length, Bool, true, false, ◌&&◌, cond, Option, Some, None, is_some, refl, arith, leb}
use Rattle.std.specs.List.{list_all}
use Rattle.std.specs.Prelude.{nat_le, nat_lt, option_map}
use Rattle.std.proofs.lemmas.Bool.{and_parts, ltb-true, leb-true, false≢true}
use Rattle.std.proofs.lemmas.Bool.Decides.{nat_tests}
use Rattle.hubs.specs.HubTable.Ranges.{is_within}
use Rattle.hubs.specs.HubTable.HubTable.{row_of}
use Rattle.hubs.specs.Hubs.{letters_of, numbers_of, number_of}
use Rattle.hubs.specs.HubTable.Places.{up_to, two_or_three, row_place, width_place, part_place, group_place, is_width, positions_before, position_place, place_of, has_as_many}
use Rattle.hubs.specs.declared.hub.Hub.{Hub}
use Rattle.hubs.specs.declared.hub_table.letters.Letters.{Letters}
use Rattle.hubs.specs.declared.hub_table.letters.Letters.TheVariants.{FR}
use Rattle.hubs.specs.declared.hub_table.shape.Numbers.{Numbers}
use Rattle.hubs.specs.declared.hub_table.shape.Numbers.TheVariants.{Bare, One, Two, Three}
use Rattle.hubs.specs.declared.hub_table.shape.Shape.{Shape}
use Rattle.hubs.specs.declared.hub_table.shape.Shape.TheVariants.{Alone, To, TwoOrThree, Each, Rows, Groups, GroupsEach, Positions}
use Rattle.wire_chart.proofs.WrittenBytes.{is_high}

-- each number is below 1,000
abbrev pub AreSmall : Numbers → Type 0
AreSmall Bare = Unit {0}
AreSmall (One n) = n < 1000
AreSmall (Two m n) = (m < 1000) × (n < 1000)
AreSmall (Three l m n) = (l < 1000) × (m < 1000) × (n < 1000)

-- a shape whose numbers are below 1,000
abbrev is_small_shape : Shape → Bool
is_small_shape (To last) = nat_lt last 1000
is_small_shape (Each things parts) = nat_lt things 1000 && nat_lt parts 1000
is_small_shape (Rows things) = nat_lt things 1000
is_small_shape (GroupsEach parts) = nat_lt parts 1000
is_small_shape shape = true

-- letters that are high, and one to three of them
abbrev pub are_good_letters : List ℕ → Bool
are_good_letters spelled = list_all is_high spelled && (nat_le 1 (length spelled) && nat_le (length spelled) 3)

pub good_letters : (letters : Letters) → are_good_letters (row_of letters).spelled ≡ true
good_letters FR = refl
good_letters other = refl

small_shape : (letters : Letters) → is_small_shape (row_of letters).shape ≡ true
small_shape FR = refl
small_shape other = refl

-- what a number is where it has a place
within_last : (n last : ℕ) → is_within n last ≡ true → n ≤ last
within_last n last h = leb-true n last (and_parts (leb 1 n) (leb n last) h).1

up_to_last : (last n : ℕ) → is_some (up_to last n) ≡ true → n ≤ last
up_to_last last n h = at (is_within n last) refl h
  where
    at : (b : Bool) → is_within n last ≡ b → is_some (cond b (Some n) None) ≡ true → n ≤ last
    at true e i = within_last n last e
    at false e i = absurd (false≢true i)

few_rows : (r : ℕ) → is_some (row_place r) ≡ true → r ≤ 12
few_rows r h = grind (arith, nat_tests)

few_wide : (w : ℕ) → is_some (width_place w) ≡ true → w ≤ 8
few_wide w h = grind (arith, nat_tests)

two_or_three_few : (n : ℕ) → is_some (two_or_three n) ≡ true → n ≤ 3
two_or_three_few n h = grind (arith, nat_tests)

-- a thing and a part that have a place
parts_there : (many : ℕ) (thing part : Option ℕ) → is_some (part_place many thing part) ≡ true
    → (is_some thing ≡ true) × (is_some part ≡ true)
parts_there many (Some thing) (Some part) h = (refl, refl)
parts_there many (Some thing) None h = absurd (false≢true h)
parts_there many None (Some part) h = absurd (false≢true h)
parts_there many None None h = absurd (false≢true h)

group_small : (w n : ℕ) → is_some (group_place w n) ≡ true → (w < 1000) × (n < 1000)
group_small w n h =
    let there = parts_there 8 (width_place w) (up_to 8 n) h in
    (omega (arith, few_wide w there.0), omega (arith, up_to_last 8 n there.1))

width_few : (w : ℕ) → is_width w ≡ true → w ≤ 8
width_few w h = grind (arith, nat_tests)

position_small : (w n i : ℕ) → is_some (position_place w n i) ≡ true → (w < 1000) × (n < 1000) × (i < 1000)
position_small w n i h =
    at (positions_before w + (n - 1) * w + i) (is_width w && (is_within n 8 && is_within i w)) refl h
  where
    at : (place : ℕ) (b : Bool) → (is_width w && (is_within n 8 && is_within i w)) ≡ b
        → is_some (cond b (Some place) None) ≡ true → (w < 1000) × (n < 1000) × (i < 1000)
    at place true e k =
        let parts = and_parts (is_width w) (is_within n 8 && is_within i w) e in
        let more = and_parts (is_within n 8) (is_within i w) parts.1 in
        let few = width_few w parts.0 in
        let last = within_last i w more.1 in
        (omega (arith, few), omega (arith, within_last n 8 more.0), omega (arith, few, last))
    at place false e k = absurd (false≢true k)

-- the numbers of a hub in range are below 1,000, and as many as those of its kind
small_numbers : (shape : Shape) (numbers : Numbers) → is_small_shape shape ≡ true → is_some (place_of shape numbers) ≡ true
    → AreSmall numbers × (has_as_many shape numbers ≡ true)
small_numbers Alone Bare s h = (tt, refl)
small_numbers (To last) (One n) s h = (omega (arith, ltb-true last 1000 s, up_to_last last n h), refl)
small_numbers TwoOrThree (One n) s h = (omega (arith, two_or_three_few n h), refl)
small_numbers (Each things parts) (Two n p) s h =
    let small = and_parts (nat_lt things 1000) (nat_lt parts 1000) s in
    let there = parts_there parts (up_to things n) (up_to parts p) h in (
      (
        omega (arith, ltb-true things 1000 small.0, up_to_last things n there.0),
        omega (arith, ltb-true parts 1000 small.1, up_to_last parts p there.1),
      ),
      refl,
    )
small_numbers (Rows things) (Two n r) s h =
    let there = parts_there 12 (up_to things n) (row_place r) h in
    ((omega (arith, ltb-true things 1000 s, up_to_last things n there.0), omega (arith, few_rows r there.1)), refl)
small_numbers Groups (Two w n) s h = (group_small w n h, refl)
small_numbers (GroupsEach parts) (Three w n p) s h =
    let there = parts_there parts (group_place w n) (up_to parts p) h in
    let group = group_small w n there.0 in
    ((group.0, group.1, omega (arith, ltb-true parts 1000 s, up_to_last parts p there.1)), refl)
small_numbers Positions (Three w n i) s h = (position_small w n i h, refl)
small_numbers shape numbers s h = absurd (false≢true h)

-- the same of a hub that has a number
pub numbered_small : (hub : Hub) (number : ℕ) → number_of hub ≡ Some number
    → AreSmall (numbers_of hub) × (has_as_many (row_of (letters_of hub)).shape (numbers_of hub) ≡ true)
numbered_small hub number e =
    small_numbers (row_of (letters_of hub)).shape (numbers_of hub) (small_shape (letters_of hub))
    (place_there (row_of (letters_of hub)).before (place_of (row_of (letters_of hub)).shape (numbers_of hub)) e)
  where
    place_there : (before : ℕ) (place : Option ℕ) → option_map (λ p. before + p) place ≡ Some number → is_some place ≡ true
    place_there before (Some p) f = refl
    place_there before None f = cc
