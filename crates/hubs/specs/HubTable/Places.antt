-- The place of a hub among those of its kind, by its numbers: they are counted from 1, the first number slowest.
use Rattle.std.specs.Prelude.{ℕ, ◌+◌, ◌-◌, ◌*◌, ◌==◌, ◌&&◌, ◌||◌, ◌≤◌, ⊤, nat_le, Bool, true, false, Option, Some, None, if◌then◌else◌}
use Rattle.hubs.specs.HubTable.Ranges.{is_within}
use Rattle.hubs.specs.declared.hub_table.shape.Numbers.{Numbers}
use Rattle.hubs.specs.declared.hub_table.shape.Numbers.TheVariants.{Bare, One, Two, Three}
use Rattle.hubs.specs.declared.hub_table.shape.Shape.{Shape}
use Rattle.hubs.specs.declared.hub_table.shape.Shape.TheVariants.{Alone, To, TwoOrThree, Each, Rows, Groups, GroupsEach, Positions}

-- a number 1 to the last
abbrev pub up_to : ℕ → ℕ → Option ℕ
up_to last n = if is_within n last then Some n else None

-- the place of a number 2 or 3
abbrev pub two_or_three : ℕ → Option ℕ
two_or_three n = if nat_le 2 n && nat_le n 3 then Some (n - 1) else None

-- the place of a card row: 0 to 9, then 11 and 12
abbrev pub row_place : ℕ → Option ℕ
row_place r = if nat_le r 9 then Some (r + 1) else if (r == 11) || (r == 12) then Some r else None

-- the place of a width of counter groups
abbrev pub width_place : ℕ → Option ℕ
width_place w =
    if w == 3 then Some 1 else if w == 4 then Some 2 else if w == 6 then Some 3 else if w == 8 then Some 4 else None

-- how many counter positions stand before those of the groups of a width
abbrev pub positions_before : ℕ → ℕ
positions_before w = if w == 3 then 0 else if w == 4 then 24 else if w == 6 then 56 else 104

-- the place of a part of a thing, where each thing has so many parts
abbrev pub part_place : ℕ → Option ℕ → Option ℕ → Option ℕ
part_place many (Some thing) (Some part) = Some ((thing - 1) * many + part)
part_place many thing part = None

-- the place of a counter group, 1 to 32
abbrev pub group_place : ℕ → ℕ → Option ℕ
group_place w n = part_place 8 (width_place w) (up_to 8 n)

-- whether there are counter groups of a width
abbrev pub is_width : ℕ → Bool
is_width w = (w == 3) || (w == 4) || (w == 6) || (w == 8)

-- the place of a counter position: the groups of a width have as many positions each
abbrev pub position_place : ℕ → ℕ → ℕ → Option ℕ
position_place w n i =
    if is_width w && (is_within n 8 && is_within i w) then Some (positions_before w + (n - 1) * w + i) else None

-- the place of a hub among those of its kind, from 1; none where its numbers are not as many, or out of range
abbrev pub place_of : Shape → Numbers → Option ℕ
place_of Alone Bare = Some 1
place_of (To last) (One n) = up_to last n
place_of TwoOrThree (One n) = two_or_three n
place_of (Each things parts) (Two n p) = part_place parts (up_to things n) (up_to parts p)
place_of (Rows things) (Two n r) = part_place 12 (up_to things n) (row_place r)
place_of Groups (Two w n) = group_place w n
place_of (GroupsEach parts) (Three w n p) = part_place parts (group_place w n) (up_to parts p)
place_of Positions (Three w n i) = position_place w n i
place_of shape numbers = None

-- how many hubs a kind has
abbrev pub count_of : Shape → ℕ
count_of Alone = 1
count_of (To last) = last
count_of TwoOrThree = 2
count_of (Each things parts) = things * parts
count_of (Rows things) = things * 12
count_of Groups = 32
count_of (GroupsEach parts) = 32 * parts
count_of Positions = 168

-- whether hubs of a kind are written with as many numbers
abbrev pub has_as_many : Shape → Numbers → Bool
has_as_many Alone Bare = true
has_as_many (To last) (One n) = true
has_as_many TwoOrThree (One n) = true
has_as_many (Each things parts) (Two n p) = true
has_as_many (Rows things) (Two n r) = true
has_as_many Groups (Two w n) = true
has_as_many (GroupsEach parts) (Three w n p) = true
has_as_many Positions (Three w n i) = true
has_as_many shape numbers = false

-- whether the numbers are at most 255 each
abbrev pub AreSmall : Numbers → Type 0
AreSmall Bare = ⊤
AreSmall (One n) = n ≤ 255
AreSmall (Two n p) = (n ≤ 255) × (p ≤ 255)
AreSmall (Three w n p) = (w ≤ 255) × (n ≤ 255) × (p ≤ 255)
