-- The counter groups of the standard machine in a row: those of 3 positions, then those of 4, of 6 and of 8, each by number.
use Rattle.std.specs.Prelude.{ℕ, ◌+◌, ◌/◌, ◌%◌, nat_eq, if◌then◌else◌}
use Rattle.capacity.specs.declared.group.CounterGroup.{CounterGroup}

-- the width of the groups of a quarter of that row
abbrev pub width_with : ℕ → ℕ
width_with quarter = if nat_eq quarter 0 then 3 else if nat_eq quarter 1 then 4 else if nat_eq quarter 2 then 6 else 8

-- the group at a place of the row, from 0
abbrev pub group_with : ℕ → CounterGroup
group_with place = record { width = width_with (place / 8); number = place % 8 + 1 }
