-- The counter group that a wheel is printed of.
use Rattle.std.specs.Prelude.{ℕ, List, [], ◌∷◌, Option, Some, None, Vec, option_and_then}
use Rattle.std.specs.declared.alloc.Global.{Global}
use Rattle.explain_wheels.specs.declared.explanations.explanation.Explanation.{Explanation}
use Rattle.hubs.specs.declared.hub.Group.{Group}
use Rattle.hubs.specs.declared.hub.Hub.{Hub}
use Rattle.hubs.specs.declared.hub.Hub.TheVariants.{GX}
use Rattle.explain_wheel_ledgers.specs.Places.{place_of}

-- the group whose exit a hub is
abbrev pub group_of_exit : Hub → Option Group
group_of_exit (GX group position) = Some group
group_of_exit other = None

-- the group at whose exit some hubs begin
abbrev pub group_of_hubs : List Hub → Option Group
group_of_hubs [] = None
group_of_hubs (hub ∷ hubs) = group_of_exit hub

-- the group at whose exit a way begins, if there is one
abbrev pub group_of_way : Option (Vec Hub Global) → Option Group
group_of_way None = None
group_of_way (Some way) = group_of_hubs way.items

-- a group, or else another
abbrev pub or_else : Option Group → Option Group → Option Group
or_else (Some group) other = Some group
or_else None other = other

-- The counter group that is printed on a wheel, by the ways to it at the rows of the cycle, in the order of the points: the first one at
-- whose exit a way begins.
abbrev pub group_of_ways : List (Option (Vec Hub Global)) → Option Group
group_of_ways [] = None
group_of_ways (way ∷ ways) = or_else (group_of_way way) (group_of_ways ways)

-- the place of the counter group that a wheel is printed of, by its explanation
abbrev pub place_printed : Explanation → Option ℕ
place_printed told = option_and_then place_of (group_of_ways told.rows.items)
