-- Digits by sets of rows, and how many positions come before those of a group. Bit r of a set tells of the row at place r among the points.
use Rattle.std.specs.Prelude.{ℕ, ◌+◌, ◌-◌, ◌*◌, ◌==◌, if◌then◌else◌}
use Rattle.card_code.specs.Rows.{passing_place}
use Rattle.hubs.specs.HubTable.Places.{positions_before}
use Rattle.hubs.specs.declared.hub.Group.{Group}
use Rattle.net.specs.HubSets.{is_bit}
use Rattle.counters.specs.WholeCycles.{digit_rows, first_digit}

-- the digit of the earliest of the rows 9 to 1 in a set, and 0 where it has none of them
abbrev pub earliest_digit : ℕ → ℕ
earliest_digit set = first_digit (λ row. is_bit set (passing_place row)) digit_rows

-- what is entered at a position with a set of rows, where something or nothing was entered before
abbrev pub digit_entered : ℕ → ℕ → ℕ
digit_entered set entered = if entered == 0 then earliest_digit set else entered

-- how many positions the groups before one have
abbrev pub positions_before_group : Group → ℕ
positions_before_group name = positions_before name.width + (name.number - 1) * name.width
