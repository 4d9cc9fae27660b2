-- Carry wires against those that are there, group by group: helper words of the code that looks for one that doesn't agree.
use Rattle.std.specs.Prelude.{◌&&◌, ◌||◌, not, Bool}
use Rattle.hubs.specs.Carries.{do_carries_agree}
use Rattle.hubs.specs.declared.hub.Group.{Group}
use Rattle.hubs.specs.declared.hub.Hub.TheVariants.{CI, CO}
use Rattle.hubs.specs.SetupsWords.Wiring.{Wiring, is_wired}

-- whether a carry wire agrees with another one, or that is not there
abbrev pub stands_with : Wiring → Group → Group → Group → Group → Bool
stands_with wiring from to other next = not (is_wired wiring (CO other) (CI next)) || do_carries_agree from to other next

-- whether it does with all that lead between one of its two groups and a further one
abbrev pub stands_beside : Wiring → Group → Group → Group → Bool
stands_beside wiring from to group =
    stands_with wiring from to from group
    && (stands_with wiring from to group to && (stands_with wiring from to to group && stands_with wiring from to group from))
