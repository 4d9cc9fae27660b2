-- What a machine has of each thing that a chart takes, and the counter groups that it has.
use Rattle.std.specs.Prelude.{ℕ, ◌≤◌, nat_eq, nat_le, if◌then◌else◌, List, [], ◌∷◌, slice_index, filter, sum_by}
use Rattle.capacity.specs.declared.group.CounterGroup.{CounterGroup}

-- How many a machine has: counter groups of 3, 4, 6 and 8 positions, pilot selectors, comparing positions, storage
-- units, column splits, and group-indicate positions of each level. Read the groups through groups_of.
pub record Capacities : Type 0 where
  pub threes : ℕ
  pub fours : ℕ
  pub sixes : ℕ
  pub eights : ℕ
  pub pilots : ℕ
  pub comparing : ℕ
  pub storage : ℕ
  pub splits : ℕ
  pub indicate : ℕ

-- the capacities of these numbers, the groups in the order of their widths 3, 4, 6 and 8
abbrev pub capacities : List ℕ → ℕ → ℕ → ℕ → ℕ → ℕ → Capacities
capacities groups pilots comparing storage splits indicate =
    record {
      threes = slice_index groups 0;
      fours = slice_index groups 1;
      sixes = slice_index groups 2;
      eights = slice_index groups 3;
      pilots = pilots;
      comparing = comparing;
      storage = storage;
      splits = splits;
      indicate = indicate;
    }

-- the standard machine
abbrev pub standard : Capacities
standard = capacities (8 ∷ 8 ∷ 8 ∷ 8 ∷ []) 16 30 4 16 30

-- no number of one is above that of the other
pub record IsAtMost (one other : Capacities) : Type 0 where
  pub threes : one.threes ≤ other.threes
  pub fours : one.fours ≤ other.fours
  pub sixes : one.sixes ≤ other.sixes
  pub eights : one.eights ≤ other.eights
  pub pilots : one.pilots ≤ other.pilots
  pub comparing : one.comparing ≤ other.comparing
  pub storage : one.storage ≤ other.storage
  pub splits : one.splits ≤ other.splits
  pub indicate : one.indicate ≤ other.indicate

-- the widths of counter groups, the widest first
abbrev pub widths : List ℕ
widths = 8 ∷ 6 ∷ 4 ∷ 3 ∷ []

-- how many counter groups have exactly this width
abbrev pub groups_of : Capacities → ℕ → ℕ
groups_of machine width =
    if nat_eq width 3 then machine.threes
    else if nat_eq width 4 then machine.fours
    else if nat_eq width 6 then machine.sixes
    else if nat_eq width 8 then machine.eights
    else 0

-- how many counter groups have this width or a greater one: the groups of the widths that are at least this one
unfoldable pub groups_at_least : Capacities → ℕ → ℕ
groups_at_least machine least = sum_by (groups_of machine) (filter (nat_le least) widths)

-- the machine has the group: its number is one of those of its width
pub record HasGroup (machine : Capacities) (group : CounterGroup) : Type 0 where
  pub from : 1 ≤ group.number
  pub to : group.number ≤ groups_of machine group.width
