use Rattle.std.proofs.Common.{◌≡◌}
use Rattle.hubs.proofs.HubTable.PlaceLemmas.{found_in_range}
use Rattle.hubs.specs.HubTable.Places.{place_of}
use Rattle.hubs.proofs.hub_table.shape.Shape.place.Goals as goal

pub returns-in-GroupsEach-Three-clause-range : goal.returns-in-GroupsEach-Three-clause-range
returns-in-GroupsEach-Three-clause-range c =
    let is : c.part_place-in-GroupsEach-Three.result ≡ place_of c.args.self c.args.numbers =
    rw (c.in-GroupsEach-Three.is-0, c.in-GroupsEach-Three.is-1)
    (cc (c.part_place-in-GroupsEach-Three.ensures, c.group_place-in-GroupsEach-Three.ensures.place, c.up_to-in-GroupsEach-Three.ensures.place)) in
    found_in_range c.args.self c.args.numbers c.part_place-in-GroupsEach-Three.result is
