-- The sums of a page that the counter of a hub held when they were printed: those that are printed of its counter group, alone or as one of
-- two.
use Rattle.std.specs.Prelude.{ℕ, ◌||◌, Bool, false, List, [], ◌∷◌, ◌++◌, Option, Some, None, codes, decimal, if◌then◌else◌}
use Rattle.std.specs.List.{flat_map}
use Rattle.hubs.specs.Carries.{is_one_group}
use Rattle.hubs.specs.declared.hub.Group.{Group}
use Rattle.hubs.specs.declared.hub.Hub.{Hub}
use Rattle.hubs.specs.declared.hub.Hub.TheVariants.{GX, CO, BAN, BAT, GE, PL, MI, RO, BT, CI, BAC}
use Rattle.show_links.specs.SumPlaces.Places.{counter_name, sum_open}
use Rattle.show_links.specs.declared.sum_places.places.SumPlace.{SumPlace}

-- the counter group that a hub belongs to; none if it is no hub of a counter
abbrev pub group_of_hub : Hub → Option Group
group_of_hub (GX group position) = Some group
group_of_hub (CO group) = Some group
group_of_hub (BAN group position) = Some group
group_of_hub (BAT group position) = Some group
group_of_hub (GE group position) = Some group
group_of_hub (PL group) = Some group
group_of_hub (MI group) = Some group
group_of_hub (RO group) = Some group
group_of_hub (BT group) = Some group
group_of_hub (CI group) = Some group
group_of_hub (BAC group position) = Some group
group_of_hub other = None

-- a sum is printed of a counter group: it has the units, or the digits above those of another one
abbrev pub is_upper : Option Group → Group → Bool
is_upper None group = false
is_upper (Some upper) group = is_one_group upper group

abbrev pub has_held : Group → SumPlace → Bool
has_held group sum = is_one_group sum.group group || is_upper sum.upper group

-- a link to a sum, by its line
unfoldable pub line_words : SumPlace → List ℕ
line_words sum = codes "page " ++ decimal sum.page ++ codes " line " ++ decimal sum.line ++ codes "</a>\n"

unfoldable pub line_link : SumPlace → List ℕ
line_link sum = sum_open sum ++ line_words sum

-- the links to the sums that a counter group held, of those of the page
abbrev pub held_link : Group → SumPlace → List ℕ
held_link group sum = if has_held group sum then line_link sum else []

abbrev pub held_links : List SumPlace → Group → List ℕ
held_links sums group = flat_map (held_link group) sums

-- what is said of them, by these links; nothing if there is none
unfoldable pub held_open : Group → List ℕ
held_open group = codes "<p>Sums on this page that " ++ counter_name group ++ codes " held when they were printed:</p>\n<div>"

unfoldable pub held_some : Group → List ℕ → List ℕ
held_some group links = held_open group ++ links ++ codes "</div>\n"

abbrev pub held_by : Group → List ℕ → List ℕ
held_by group [] = []
held_by group (sign ∷ links) = held_some group (sign ∷ links)

-- what is said of the sums that the counter of a hub held; nothing of another hub
abbrev pub held_in : List SumPlace → Option Group → List ℕ
held_in sums None = []
held_in sums (Some group) = held_by group (held_links sums group)

abbrev pub held_text : List SumPlace → Hub → List ℕ
held_text sums hub = held_in sums (group_of_hub hub)
