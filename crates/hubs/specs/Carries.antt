-- Carry wires. A carry exit leads to a carry entry alone, and a carry entry is fed by a carry exit alone. A wire makes a ring of
-- one group, or couples two groups of 8 positions. Each carry exit leads to one carry entry at most, each carry entry is fed by one
-- carry exit at most, and three groups are never joined.
use Rattle.std.specs.Prelude.{◌==◌, ◌&&◌, ◌||◌, not, Bool, true, false, Option, Some, None}
use Rattle.hubs.specs.Hubs.{carry_into, carry_out_of}
use Rattle.hubs.specs.declared.hub.Group.{Group}
use Rattle.hubs.specs.declared.hub.Hub.{Hub}

-- whether two counter groups are one
abbrev pub is_one_group : Group → Group → Bool
is_one_group one other = (one.width == other.width) && (one.number == other.number)

-- whether a carry may leave the first group, if it is one, and enter the second, if it is one: none is fed by none
abbrev pub may_carry : Option Group → Option Group → Bool
may_carry (Some from) (Some to) = is_one_group from to || ((from.width == 8) && (to.width == 8))
may_carry None None = true
may_carry from to = false

-- whether a wire may lead from the exit to the entry as far as its own carry goes
abbrev pub keeps_carry : Hub → Hub → Bool
keeps_carry exit entry = may_carry (carry_out_of exit) (carry_into entry)

-- whether two tests are the same
abbrev pub are_alike : Bool → Bool → Bool
are_alike true other = other
are_alike false other = not other

-- Two carry wires agree where they leave one group exactly if they enter one, and where the second leaves the group that the first
-- enters exactly if it enters the one that the first leaves.
abbrev pub do_carries_agree : Group → Group → Group → Group → Bool
do_carries_agree from to other next =
    are_alike (is_one_group from other) (is_one_group to next) && are_alike (is_one_group to other) (is_one_group from next)

-- so do wires of which one is no carry's
abbrev pub do_groups_agree : Option Group → Option Group → Option Group → Option Group → Bool
do_groups_agree (Some from) (Some to) (Some other) (Some next) = do_carries_agree from to other next
do_groups_agree from to other next = true

-- whether two wires can be there together
abbrev pub do_wires_agree : Hub → Hub → Hub → Hub → Bool
do_wires_agree exit entry other next =
    do_groups_agree (carry_out_of exit) (carry_into entry) (carry_out_of other) (carry_into next)
