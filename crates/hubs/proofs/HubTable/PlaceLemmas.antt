-- The places of hubs among those of their kind, and the numbers at each place.
use Rattle.std.proofs.Common.{◌≡◌, ◌≤◌, ◌<◌, ◌+◌, ◌-◌, ◌*◌, ◌/◌, ◌%◌, ◌∙◌, sym, ap, ℕ, zero, suc, Bool, true, ◌&&◌, nat_le, ◌==◌, if◌then◌else◌, Option, Some, None, refl, arith}
use Rattle.std.proofs.lemmas.Bool.{and_parts}
use Rattle.std.proofs.lemmas.Bool.Decides.{nat_tests}
use Rattle.std.proofs.lemmas.Nat.{div-mul-add}
use Rattle.std.proofs.Math.Nat.{mod-add-div', mod-lt, mul-le-mul_right, mul-zero, div-lt_iff_lt-mul}
use Rattle.hubs.specs.HubTable.Places.{place_of, count_of, AreSmall, part_place, up_to, two_or_three, row_place, width_place, group_place}
use Rattle.std.specs.Prelude.{IfSome}
use Rattle.hubs.specs.HubTable.Places.{position_place, is_width, positions_before}
use Rattle.hubs.specs.declared.hub_table.shape.Numbers.{Numbers}
use Rattle.hubs.specs.declared.hub_table.shape.Numbers.TheVariants.{Bare, One, Two, Three}
use Rattle.hubs.specs.declared.hub_table.shape.Shape.{Shape}
use Rattle.hubs.specs.declared.hub_table.shape.Shape.TheVariants.{Alone, To, TwoOrThree, Each, Rows, Groups, GroupsEach, Positions}

up_to-range : (last n p : ℕ) → up_to last n ≡ Some p → (p ≡ n) × (1 ≤ p) × (p ≤ last)
up_to-range last n p e = grind (arith, nat_tests)

up_to-within : (last n : ℕ) → 1 ≤ n → n ≤ last → up_to last n ≡ Some n
up_to-within last n from to = grind (arith, nat_tests)

two_or_three-range : (n p : ℕ) → two_or_three n ≡ Some p → (n ≡ p + 1) × (1 ≤ p) × (p ≤ 2)
two_or_three-range n p e = grind (arith, nat_tests)

row_place-range : (r p : ℕ) → row_place r ≡ Some p → (1 ≤ p) × (p ≤ 12)
row_place-range r p e = grind (arith, nat_tests)

row_place-same : (r s p : ℕ) → row_place r ≡ Some p → row_place s ≡ Some p → r ≡ s
row_place-same r s p e f = grind (arith, nat_tests)

pub width_place-range : (w p : ℕ) → width_place w ≡ Some p → (1 ≤ p) × (p ≤ 4)
width_place-range w p e = grind (arith, nat_tests)

width_place-same : (w v p : ℕ) → width_place w ≡ Some p → width_place v ≡ Some p → w ≡ v
width_place-same w v p e f = grind (arith, nat_tests)

-- the places that the place of a part is made of
record PartPlace (many : ℕ) (things parts : Option ℕ) (p : ℕ) : Type 0 where
  thing : ℕ
  part : ℕ
  is_thing : things ≡ Some thing
  is_part : parts ≡ Some part
  value : (thing - 1) * many + part ≡ p

parts_of_place : (many : ℕ) (things parts : Option ℕ) (p : ℕ) → part_place many things parts ≡ Some p
    → PartPlace many things parts p
parts_of_place many (Some t) (Some a) p e =
    record { thing = t; part = a; is_thing = refl; is_part = refl; value = cc }
parts_of_place many None parts p e = cc
parts_of_place many (Some t) None p e = cc

-- parts at one place are one part of one thing
same_part : (many t a u b p : ℕ) → 1 ≤ t → 1 ≤ u → 1 ≤ a → a ≤ many → 1 ≤ b → b ≤ many → (t - 1) * many + a ≡ p
    → (u - 1) * many + b ≡ p → (t ≡ u) × (a ≡ b)
same_part many t a u b p from_t from_u from_a to_a from_b to_b here there =
    let one : ((t - 1) * many + (a - 1)) / many ≡ t - 1 = div-mul-add (t - 1) many (a - 1) (omega arith) in
    let other : ((u - 1) * many + (b - 1)) / many ≡ u - 1 = div-mul-add (u - 1) many (b - 1) (omega arith) in
    let level : (t - 1) * many + (a - 1) ≡ (u - 1) * many + (b - 1) = omega arith in
    let things : t - 1 ≡ u - 1 = sym one ∙ ap (λ (n : ℕ). n / many) level ∙ other in
    let is : t ≡ u = omega (arith, things) in
    let before : (t - 1) * many ≡ (u - 1) * many = ap (λ (n : ℕ). n * many) things in
    (is, omega (arith, before))

-- the place of a part is one of as many as there are parts
part_within : (many things t a p : ℕ) → 1 ≤ t → t ≤ things → 1 ≤ a → a ≤ many → (t - 1) * many + a ≡ p
    → (1 ≤ p) × (p ≤ things * many)
part_within many things t a p from_t to_t from_a to_a here =
    let all : (t - 1 + 1) * many ≤ things * many = mul-le-mul_right many (omega arith) in
    (omega arith, omega (arith, all))

-- there are parts where one has a place
has_parts : (many things p : ℕ) → 1 ≤ p → p ≤ things * many → 1 ≤ many
has_parts zero things p from to = absurd (omega (arith, mul-zero things))
has_parts (suc many) things p from to = omega arith

-- a place among the parts of some things is that of a part of one of the things
record At (many things p : ℕ) : Type 0 where
  from : 1 ≤ (p - 1) / many + 1
  to : (p - 1) / many + 1 ≤ things
  from_part : 1 ≤ (p - 1) % many + 1
  to_part : (p - 1) % many + 1 ≤ many
  value : ((p - 1) / many + 1 - 1) * many + ((p - 1) % many + 1) ≡ p

part_at : (many things p : ℕ) → 1 ≤ p → p ≤ things * many → At many things p
part_at many things p from to =
    let some : 0 < many = has_parts many things p from to in
    let before : p - 1 < things * many = omega arith in
    let whole : (p - 1) / many < things = (div-lt_iff_lt-mul some).1 before in
    let rest : (p - 1) % many < many = mod-lt (p - 1) some in
    let sum : (p - 1) % many + (p - 1) / many * many ≡ p - 1 = mod-add-div' (p - 1) many in
    let back : (p - 1) / many + 1 - 1 ≡ (p - 1) / many = omega arith in
    record {
      from = omega arith;
      to = omega (arith, whole);
      from_part = omega arith;
      to_part = omega (arith, rest);
      value = rw back (omega (arith, sum));
    }

-- the place of a part whose thing and which itself have places
placed : (many : ℕ) (things parts : Option ℕ) (t a p : ℕ) → things ≡ Some t → parts ≡ Some a
    → (t - 1) * many + a ≡ p → part_place many things parts ≡ Some p
placed many things parts t a p is_thing is_part here = rw (is_thing, is_part) (ap Some here)

-- the card row at a place
abbrev row_at : ℕ → ℕ
row_at p = if nat_le p 10 then p - 1 else p

row_at-place : (p : ℕ) → 1 ≤ p → p ≤ 12 → row_place (row_at p) ≡ Some p
row_at-place p from to = grind (arith, nat_tests)

-- the width of counter groups at a place
abbrev width_at : ℕ → ℕ
width_at p = if p == 1 then 3 else if p == 2 then 4 else if p == 3 then 6 else 8

width_at-place : (p : ℕ) → 1 ≤ p → p ≤ 4 → width_place (width_at p) ≡ Some p
width_at-place p from to = grind (arith, nat_tests)

-- the width of the groups that have the counter position at a place
abbrev position_width : ℕ → ℕ
position_width p = if nat_le p 24 then 3 else if nat_le p 56 then 4 else if nat_le p 104 then 6 else 8

position_width-is : (p : ℕ) → 1 ≤ p → p ≤ 168
    → (is_width (position_width p) ≡ true) × (positions_before (position_width p) < p)
    × (p ≤ positions_before (position_width p) + 8 * position_width p)
position_width-is p from to = grind (arith, nat_tests)

-- the numbers at a place
abbrev pub numbers_at : Shape → ℕ → Numbers
numbers_at Alone p = Bare
numbers_at (To last) p = One p
numbers_at TwoOrThree p = One (p + 1)
numbers_at (Each things parts) p = Two ((p - 1) / parts + 1) ((p - 1) % parts + 1)
numbers_at (Rows things) p = Two ((p - 1) / 12 + 1) (row_at ((p - 1) % 12 + 1))
numbers_at Groups p = Two (width_at ((p - 1) / 8 + 1)) ((p - 1) % 8 + 1)
numbers_at (GroupsEach parts) p =
    let group = (p - 1) / parts + 1 in
    Three (width_at ((group - 1) / 8 + 1)) ((group - 1) % 8 + 1) ((p - 1) % parts + 1)
numbers_at Positions p =
    let width = position_width p in
    let place = p - positions_before width in
    Three width ((place - 1) / width + 1) ((place - 1) % width + 1)

group_at : (p : ℕ) → 1 ≤ p → p ≤ 32 → group_place (width_at ((p - 1) / 8 + 1)) ((p - 1) % 8 + 1) ≡ Some p
group_at p from to =
    let at = part_at 8 4 p from to in
    placed 8 _ _ ((p - 1) / 8 + 1) ((p - 1) % 8 + 1) p (width_at-place ((p - 1) / 8 + 1) at.from at.to)
    (up_to-within 8 ((p - 1) % 8 + 1) at.from_part at.to_part) at.value

position_at : (w n i p : ℕ) → is_width w ≡ true → 1 ≤ n → n ≤ 8 → 1 ≤ i → i ≤ w
    → (n - 1) * w + i ≡ p - positions_before w → positions_before w < p → position_place w n i ≡ Some p
position_at w n i p is from to from_i to_i here before = grind (arith, nat_tests)

-- the numbers at a place have it
pub numbers_at-place : (shape : Shape) (p : ℕ) → 1 ≤ p → p ≤ count_of shape → place_of shape (numbers_at shape p) ≡ Some p
numbers_at-place Alone p from to = ap Some (omega arith)
numbers_at-place (To last) p from to = up_to-within last p from to
numbers_at-place TwoOrThree p from to = two_or_three-at p from to where
  two_or_three-at : (p : ℕ) → 1 ≤ p → p ≤ 2 → two_or_three (p + 1) ≡ Some p
  two_or_three-at p from to = grind (arith, nat_tests)
numbers_at-place (Each things parts) p from to =
    let at = part_at parts things p from to in
    placed parts _ _ ((p - 1) / parts + 1) ((p - 1) % parts + 1) p
    (up_to-within things ((p - 1) / parts + 1) at.from at.to)
    (up_to-within parts ((p - 1) % parts + 1) at.from_part at.to_part) at.value
numbers_at-place (Rows things) p from to =
    let at = part_at 12 things p from to in
    placed 12 _ _ ((p - 1) / 12 + 1) ((p - 1) % 12 + 1) p (up_to-within things ((p - 1) / 12 + 1) at.from at.to)
    (row_at-place ((p - 1) % 12 + 1) at.from_part at.to_part) at.value
numbers_at-place Groups p from to = group_at p from to
numbers_at-place (GroupsEach parts) p from to =
    let at = part_at parts 32 p from to in
    placed parts _ _ ((p - 1) / parts + 1) ((p - 1) % parts + 1) p (group_at ((p - 1) / parts + 1) at.from at.to)
    (up_to-within parts ((p - 1) % parts + 1) at.from_part at.to_part) at.value
numbers_at-place Positions p from to =
    let width = position_width-is p from to in
    let w = position_width p in
    let at = part_at w 8 (p - positions_before w) (omega (arith, width)) (omega (arith, width)) in
    position_at w ((p - positions_before w - 1) / w + 1) ((p - positions_before w - 1) % w + 1) p width.0 at.from at.to
    at.from_part at.to_part at.value width.1

-- what the place of a counter position says
record PositionPlace (w n i p : ℕ) : Type 0 where
  from : 1 ≤ n
  to : n ≤ 8
  from_part : 1 ≤ i
  to_part : i ≤ w
  value : positions_before w + ((n - 1) * w + i) ≡ p
  width : is_width w ≡ true

position_of_place : (w n i p : ℕ) → position_place w n i ≡ Some p → PositionPlace w n i p
position_of_place w n i p e =
    record { from = grind (arith, nat_tests); to = grind (arith, nat_tests); from_part = grind (arith, nat_tests); to_part = grind (arith, nat_tests); value = grind (arith, nat_tests); width = grind (arith, nat_tests) }

-- positions of groups of two widths have different places
width_of_place : (w v p : ℕ) → is_width w ≡ true → is_width v ≡ true → positions_before w < p → p ≤ positions_before w + 8 * w
    → positions_before v < p → p ≤ positions_before v + 8 * v → w ≡ v
width_of_place w v p is_w is_v from to from_v to_v = grind (arith, nat_tests)

all_positions : (w : ℕ) → is_width w ≡ true → positions_before w + 8 * w ≤ 168
all_positions w is = grind (arith, nat_tests)

group_range : (w n p : ℕ) → group_place w n ≡ Some p → (1 ≤ p) × (p ≤ 32)
group_range w n p e =
    let parts = parts_of_place 8 (width_place w) (up_to 8 n) p e in
    let thing = width_place-range w parts.thing parts.is_thing in
    let part = up_to-range 8 n parts.part parts.is_part in
    part_within 8 4 parts.thing parts.part p thing.0 thing.1 part.1 part.2 parts.value

group_same : (w n v m p : ℕ) → group_place w n ≡ Some p → group_place v m ≡ Some p → (w ≡ v) × (n ≡ m)
group_same w n v m p e f =
    let one = parts_of_place 8 (width_place w) (up_to 8 n) p e in
    let other = parts_of_place 8 (width_place v) (up_to 8 m) p f in
    let thing = width_place-range w one.thing one.is_thing in
    let and_thing = width_place-range v other.thing other.is_thing in
    let part = up_to-range 8 n one.part one.is_part in
    let and_part = up_to-range 8 m other.part other.is_part in
    let same =
    same_part 8 one.thing one.part other.thing other.part p thing.0 and_thing.0 part.1 part.2 and_part.1 and_part.2
    one.value other.value in (
      width_place-same w v one.thing one.is_thing (other.is_thing ∙ ap Some (sym same.0)),
      sym part.0 ∙ same.1 ∙ and_part.0,
    )

position_range : (w n i p : ℕ) → position_place w n i ≡ Some p
    → (positions_before w < p) × (p ≤ positions_before w + 8 * w)
position_range w n i p e =
    let place = position_of_place w n i p e in
    let within =
    part_within w 8 n i ((n - 1) * w + i) place.from place.to place.from_part place.to_part refl in
    (omega (arith, within.0, place.value), omega (arith, within.1, place.value))

position_same : (w n i v m j p : ℕ) → position_place w n i ≡ Some p → position_place v m j ≡ Some p
    → (w ≡ v) × (n ≡ m) × (i ≡ j)
position_same w n i v m j p e f =
    let one = position_of_place w n i p e in
    let other = position_of_place v m j p f in
    let range = position_range w n i p e in
    let and_range = position_range v m j p f in
    let is : w ≡ v = width_of_place w v p one.width other.width range.0 range.1 and_range.0 and_range.1 in
    let within : j ≤ w = omega (arith, other.to_part, is) in
    let value : positions_before w + ((m - 1) * w + j) ≡ p = rw is other.value in
    let parts =
    same_part w n i m j ((n - 1) * w + i) one.from other.from one.from_part one.to_part other.from_part within refl
    (omega (arith, value, one.value)) in
    (is, parts.0, parts.1)

two_same : {n m a b : ℕ} → n ≡ m → a ≡ b → Two n a ≡ Two m b
two_same e f = cc

three_same : {w v n m a b : ℕ} → w ≡ v → n ≡ m → a ≡ b → Three w n a ≡ Three v m b
three_same e f g = cc

-- the places of the hubs of a kind are those from 1 to as many as there are
pub place-range : (shape : Shape) (numbers : Numbers) (p : ℕ) → place_of shape numbers ≡ Some p
    → (1 ≤ p) × (p ≤ count_of shape)
place-range Alone Bare p e = one_only p e where
  one_only : (p : ℕ) → Some 1 ≡ Some p → (1 ≤ p) × (p ≤ 1)
  one_only p e = grind arith
place-range (To last) (One n) p e = let range = up_to-range last n p e in (range.1, range.2)
place-range TwoOrThree (One n) p e = let range = two_or_three-range n p e in (range.1, range.2)
place-range (Each things parts) (Two n a) p e =
    let place = parts_of_place parts (up_to things n) (up_to parts a) p e in
    let thing = up_to-range things n place.thing place.is_thing in
    let part = up_to-range parts a place.part place.is_part in
    part_within parts things place.thing place.part p thing.1 thing.2 part.1 part.2 place.value
place-range (Rows things) (Two n r) p e =
    let place = parts_of_place 12 (up_to things n) (row_place r) p e in
    let thing = up_to-range things n place.thing place.is_thing in
    let part = row_place-range r place.part place.is_part in
    part_within 12 things place.thing place.part p thing.1 thing.2 part.0 part.1 place.value
place-range Groups (Two w n) p e = group_range w n p e
place-range (GroupsEach parts) (Three w n a) p e =
    let place = parts_of_place parts (group_place w n) (up_to parts a) p e in
    let thing = group_range w n place.thing place.is_thing in
    let part = up_to-range parts a place.part place.is_part in
    part_within parts 32 place.thing place.part p thing.0 thing.1 part.1 part.2 place.value
place-range Positions (Three w n i) p e =
    let range = position_range w n i p e in
    let all = all_positions w (position_of_place w n i p e).width in
    (omega (arith, range), omega (arith, range, all))
place-range shape numbers p e = cc

-- two hubs of a kind that have one place have the same numbers
pub place-injective : (shape : Shape) (one other : Numbers) (p : ℕ) → place_of shape one ≡ Some p
    → place_of shape other ≡ Some p → one ≡ other
place-injective Alone Bare Bare p e f = refl
place-injective (To last) (One n) (One m) p e f =
    ap One (sym (up_to-range last n p e).0 ∙ (up_to-range last m p f).0)
place-injective TwoOrThree (One n) (One m) p e f =
    ap One ((two_or_three-range n p e).0 ∙ sym (two_or_three-range m p f).0)
place-injective (Each things parts) (Two n a) (Two m b) p e f =
    let one = parts_of_place parts (up_to things n) (up_to parts a) p e in
    let other = parts_of_place parts (up_to things m) (up_to parts b) p f in
    let thing = up_to-range things n one.thing one.is_thing in
    let and_thing = up_to-range things m other.thing other.is_thing in
    let part = up_to-range parts a one.part one.is_part in
    let and_part = up_to-range parts b other.part other.is_part in
    let same =
    same_part parts one.thing one.part other.thing other.part p thing.1 and_thing.1 part.1 part.2 and_part.1
    and_part.2 one.value other.value in
    two_same (sym thing.0 ∙ same.0 ∙ and_thing.0) (sym part.0 ∙ same.1 ∙ and_part.0)
place-injective (Rows things) (Two n a) (Two m b) p e f =
    let one = parts_of_place 12 (up_to things n) (row_place a) p e in
    let other = parts_of_place 12 (up_to things m) (row_place b) p f in
    let thing = up_to-range things n one.thing one.is_thing in
    let and_thing = up_to-range things m other.thing other.is_thing in
    let part = row_place-range a one.part one.is_part in
    let and_part = row_place-range b other.part other.is_part in
    let same =
    same_part 12 one.thing one.part other.thing other.part p thing.1 and_thing.1 part.0 part.1 and_part.0
    and_part.1 one.value other.value in
    two_same (sym thing.0 ∙ same.0 ∙ and_thing.0)
    (row_place-same a b one.part one.is_part (other.is_part ∙ ap Some (sym same.1)))
place-injective Groups (Two w n) (Two v m) p e f = let same = group_same w n v m p e f in two_same same.0 same.1
place-injective (GroupsEach parts) (Three w n a) (Three v m b) p e f =
    let one = parts_of_place parts (group_place w n) (up_to parts a) p e in
    let other = parts_of_place parts (group_place v m) (up_to parts b) p f in
    let thing = group_range w n one.thing one.is_thing in
    let and_thing = group_range v m other.thing other.is_thing in
    let part = up_to-range parts a one.part one.is_part in
    let and_part = up_to-range parts b other.part other.is_part in
    let same =
    same_part parts one.thing one.part other.thing other.part p thing.0 and_thing.0 part.1 part.2 and_part.1
    and_part.2 one.value other.value in
    let group = group_same w n v m one.thing one.is_thing (other.is_thing ∙ ap Some (sym same.0)) in
    three_same group.0 group.1 (sym part.0 ∙ same.1 ∙ and_part.0)
place-injective Positions (Three w n i) (Three v m j) p e f =
    let same = position_same w n i v m j p e f in three_same same.0 same.1 same.2
place-injective shape one other p e f = cc

-- whether the numbers of the hubs of a kind are at most 255
abbrev pub has_small_lasts : Shape → Bool
has_small_lasts Alone = true
has_small_lasts (To last) = nat_le last 255
has_small_lasts TwoOrThree = true
has_small_lasts (Each things parts) = nat_le things 255 && nat_le parts 255
has_small_lasts (Rows things) = nat_le things 255
has_small_lasts Groups = true
has_small_lasts (GroupsEach parts) = nat_le parts 255
has_small_lasts Positions = true

small : (last n p : ℕ) → nat_le last 255 ≡ true → up_to last n ≡ Some p → n ≤ 255
small last n p within e = grind (arith, nat_tests)

small_row : (r p : ℕ) → row_place r ≡ Some p → r ≤ 255
small_row r p e = grind (arith, nat_tests)

small_width : (w p : ℕ) → width_place w ≡ Some p → w ≤ 255
small_width w p e = grind (arith, nat_tests)

small_group : (w n p : ℕ) → group_place w n ≡ Some p → (w ≤ 255) × (n ≤ 255)
small_group w n p e =
    let place = parts_of_place 8 (width_place w) (up_to 8 n) p e in
    (small_width w place.thing place.is_thing, small 8 n place.part refl place.is_part)

small_position : (w n i p : ℕ) → position_place w n i ≡ Some p → (w ≤ 255) × (n ≤ 255) × (i ≤ 255)
small_position w n i p e =
    let place = position_of_place w n i p e in
    let width = all_positions w place.width in
    (omega (arith, width), omega (arith, place.to), omega (arith, place.to_part, width))

pub small_numbers : (shape : Shape) (numbers : Numbers) (p : ℕ) → has_small_lasts shape ≡ true
    → place_of shape numbers ≡ Some p → AreSmall numbers
small_numbers Alone Bare p within e = tt
small_numbers (To last) (One n) p within e = small last n p within e
small_numbers TwoOrThree (One n) p within e = omega (arith, two_or_three-range n p e)
small_numbers (Each things parts) (Two n a) p within e =
    let place = parts_of_place parts (up_to things n) (up_to parts a) p e in
    let lasts = and_parts (nat_le things 255) (nat_le parts 255) within in
    (small things n place.thing lasts.0 place.is_thing, small parts a place.part lasts.1 place.is_part)
small_numbers (Rows things) (Two n r) p within e =
    let place = parts_of_place 12 (up_to things n) (row_place r) p e in
    (small things n place.thing within place.is_thing, small_row r place.part place.is_part)
small_numbers Groups (Two w n) p within e = small_group w n p e
small_numbers (GroupsEach parts) (Three w n a) p within e =
    let place = parts_of_place parts (group_place w n) (up_to parts a) p e in
    let group = small_group w n place.thing place.is_thing in
    (group.0, group.1, small parts a place.part within place.is_part)
small_numbers Positions (Three w n i) p within e = small_position w n i p e
small_numbers shape numbers p within e = cc

-- a place that is found is in range
pub found_in_range : (shape : Shape) (numbers : Numbers) (found : Option ℕ) → found ≡ place_of shape numbers
    → IfSome found (λ p. (1 ≤ p) × (p ≤ count_of shape))
found_in_range shape numbers (Some p) is = place-range shape numbers p (sym is)
found_in_range shape numbers None is = tt
