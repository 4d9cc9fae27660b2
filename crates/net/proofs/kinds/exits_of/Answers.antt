use Rattle.net.proofs.KindExits.{HasEmitting-all}
use Rattle.net.proofs.kinds.exits_of.Goals as goal

pub returns : goal.returns
returns c wiring cycle is orders =
    HasEmitting-all wiring cycle c.args.told.now c.untold_exits-exits.result _ _ _ _ c.insert_units.new.exits (c.untold_exits-exits.ensures cycle is)
    c.insert_groups.ensures.kept c.insert_groups.ensures.groups c.insert_groups-2.ensures.kept c.insert_groups-2.ensures.groups
    c.insert_groups-3.ensures.kept c.insert_groups-3.ensures.groups c.insert_groups-4.ensures.kept c.insert_groups-4.ensures.groups
    c.insert_units.ensures.kept c.insert_units.ensures.units orders
