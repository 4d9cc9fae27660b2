-- What contracts see of the fields of a counter group.
use Rattle.std.specs.Prelude.{◌≡◌, ◌≤◌, true, All, reverse, take}
use Rattle.hubs.specs.HubTable.Places.{is_width}
use Rattle.hubs.specs.HubTable.Ranges.{is_within}
use Rattle.counters.specs.Counters.{Counter, group_of_unit}
use Rattle.counters.specs.Laws.{IsDigit}
use Rattle.counters.specs.declared.group.Group.TheInside.{Inside}

-- a group: the first of its eight places stand for its positions, the units first, as many as it has
abbrev pub counter_in : Inside → Counter
counter_in group = record {
  name = group.name;
  digits = reverse (take group.name.width group.digits);
  entered = reverse (take group.name.width group.entered);
  carry = group.carry;
  controls = group.controls;
  latch = group.latch;
}

-- the group is the one of its unit, and what stands at its places are digits
pub record IsOfItsUnit (group : Inside) : Type 0 where
  pub from : 3 ≤ group.unit
  pub to : group.unit ≤ 34
  pub unit : group.name ≡ group_of_unit group.unit
  pub width : is_width group.name.width ≡ true
  pub named : is_within group.name.number 8 ≡ true
  pub digits : All IsDigit group.digits
  pub entered : All IsDigit group.entered
