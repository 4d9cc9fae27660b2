-- The places of counter groups.
use Rattle.std.specs.Prelude.{ℕ, zero, suc, ◌+◌, Option, Some, None, if◌then◌else◌}
use Rattle.counters.specs.Counters.{group_of_unit}
use Rattle.hubs.specs.Carries.{is_one_group}
use Rattle.hubs.specs.declared.hub.Group.{Group}

-- the place of a group among the first so many; unit 3 has place 0
abbrev pub place_below : ℕ → Group → Option ℕ
place_below zero group = None
place_below (suc place) group = if is_one_group (group_of_unit (3 + place)) group then Some place else place_below place group

-- the place of a group; none for what is no group of the panel
abbrev pub place_of : Group → Option ℕ
place_of group = place_below 32 group
